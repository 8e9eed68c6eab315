use Rattle.std.proofs.Common.{◌≡◌, Some}
use Rattle.std.specs.Prelude.{slice_get}
use Rattle.board_defs.specs.declared.board.Net.{Net}
use Rattle.coverage_list.specs.inner.CoverForms.{pair_at, texts_from}
use Rattle.line_printer.proofs.PutLemmas.{Completes}
use Rattle.coverage_list.proofs.listing.put_word.Given as goal

-- What the call has written so far, followed by the lines for net `low` and each of the nets `high..end`, is all that the call must write.
abbrev pub invariant-loop-high : goal.invariant-loop-high
invariant-loop-high g l =
    (net : Net) → slice_get l.board.nets l.low ≡ Some net
    → Completes (g.K.Sink.shown l.fn.out) (g.K.Sink.shown l.out)
    (texts_from (pair_at l.board net) l.high l.end)
    (texts_from (pair_at l.board net) l.from l.end)
