use Rattle.std.proofs.Common.{length, ◌≡◌, ◌+◌, ◌-◌, Some}
use Rattle.std.specs.Prelude.{slice_get}
use Rattle.board_defs.specs.declared.board.Net.{Net}
use Rattle.coverage_list.specs.inner.CoverForms.{pair_at, texts_from}
use Rattle.line_printer.proofs.PutLemmas.{Completes}
use Rattle.coverage_list.proofs.listing.put_later.Given as goal

-- What the call has written so far, followed by the lines for net `low` and each net from `from` on, is all that the call must write.
abbrev pub invariant-loop-from : goal.invariant-loop-from
invariant-loop-from g l =
    (net : Net) → slice_get l.board.nets l.low ≡ Some net
    → Completes (g.K.Sink.shown l.fn.out) (g.K.Sink.shown l.out)
    (texts_from (pair_at l.board net) l.from (length l.board.nets))
    (texts_from (pair_at l.board net) (l.low + 1) (length l.board.nets))

abbrev pub decreases-loop-from : goal.decreases-loop-from
decreases-loop-from g l = l.count - l.from
