-- The map of a row gives, for each pin of the row, the first port bit with this pin.
use Rattle.std.proofs.Common.{ap, ◌∙◌}
use Rattle.board_lines.specs.PinRows.{bit_of_pin}
use Rattle.board_lines.proofs.pin_rows.PinRow.bit_of.Goals as goal

pub returns : goal.returns
returns c = c.copied.ensures ∙ c.get.ensures.value ∙ c.self.invariant c.args.pin ∙ ap (λ v. bit_of_pin v c.args.pin.now) c.self.view_is
