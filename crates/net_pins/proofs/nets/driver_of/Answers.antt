use Rattle.std.proofs.Common.{sym, ◌∙◌}
use Rattle.net_pins.proofs.PositionLemmas.{entry_below}
use Rattle.net_pins.proofs.nets.driver_of.Goals as goal

pub net_driver-requires : goal.net_driver-requires
net_driver-requires c =
    entry_below c.args.board.now c.raw.ensures.rules c.in-Some.at c.in-Some-driving_entry.cell
    (sym c.driving_entry.ensures ∙ c.in-Some-driving_entry.is)
