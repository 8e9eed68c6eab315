-- Each step of the loop adds one more part and the number of a row with its pins.
use Rattle.std.proofs.Common.{ap, ◌∙◌, Some}
use Rattle.board_lines.proofs.PinLemmas.{rows_step}
use Rattle.board_lines.proofs.places.rows_of.Goals as goal

pub loop-part-preserved : goal.loop-part-preserved
loop-part-preserved c =
    rows_step c.loop-part.rows.items c.row_of.new.rows.items c.loop-part.numbers.items
    c.push.new.self.items c.args.parts.now c.loop-part.part-index c.in_ok-number.number
    c.part-item.result c.loop-part-test.true c.part-item.is c.loop-part.invariant
    c.in_ok-number.ensures.kept
    (c.in_ok-number.ensures.number ∙ ap Some c.bits_of.ensures.pins) c.in_ok-push.ensures.items
