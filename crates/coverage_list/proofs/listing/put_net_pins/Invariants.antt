use Rattle.std.proofs.Common.{length}
use Rattle.coverage_list.specs.inner.CoverForms.{pin_text_at, texts_from}
use Rattle.line_printer.proofs.PutLemmas.{Completes}
use Rattle.coverage_list.proofs.listing.put_net_pins.Given as goal

-- The text written so far, followed by the lines of the pins from `place` on, is the text of the net's pins.
abbrev pub invariant-loop-place : goal.invariant-loop-place
invariant-loop-place g l =
    Completes (g.K.Sink.shown l.fn.out) (g.K.Sink.shown l.out)
    (texts_from (pin_text_at l.board l.pin_use l.net) l.place (length l.net.pins))
    (texts_from (pin_text_at l.board l.pin_use l.net) 0 (length l.net.pins))
