use Rattle.std.proofs.Common.{◌≡◌, take, drop}
use Rattle.board_defs.specs.DeviceRules.{is_on}
use Rattle.first_places.specs.Items.{first_from}
use Rattle.device_rules.specs.Ports.{bit_total}
use Rattle.device_rules.specs.Places.{driven_bit_number, breaks_driver, v13}
use Rattle.device_rules.specs.inner.Tables.{MarksItems}
use Rattle.device_rules.proofs.places.second_driver.Given as goal

abbrev pub invariant-loop-i : goal.invariant-loop-i
invariant-loop-i l = record {
  driven : MarksItems (λ bit entry. is_on bit (driven_bit_number l.ports entry)) (take l.i l.entries) (bit_total l.ports) l.driven.items;
  found : first_from (breaks_driver l.ports) (take l.i l.entries) (drop l.i l.entries) ≡ v13 l.ports l.entries;
}
