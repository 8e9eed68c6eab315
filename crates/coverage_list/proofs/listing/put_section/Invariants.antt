use Rattle.std.proofs.Common.{length}
use Rattle.coverage_list.specs.inner.CoverForms.{section_at, section_lines, texts_from}
use Rattle.line_printer.proofs.PutLemmas.{Completes}
use Rattle.coverage_list.proofs.listing.put_section.Given as goal

-- The text written so far, followed by the lines of the nets from `n` on, is the section.
abbrev pub invariant-loop-n : goal.invariant-loop-n
invariant-loop-n g l =
    Completes (g.K.Sink.shown l.fn.out) (g.K.Sink.shown l.out)
    (texts_from (section_at l.board l.section) l.n (length l.board.nets))
    (section_lines l.board l.section)
