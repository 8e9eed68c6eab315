use Rattle.std.proofs.Common.{◌≡◌, take}
use Rattle.net_pins.specs.NetCells.{drivers_of_pins}
use Rattle.net_pins.proofs.nets.drivers_of_pins.Given as goal

abbrev pub invariant-loop-place : goal.invariant-loop-place
invariant-loop-place l = l.drivers.items ≡ drivers_of_pins l.board (take l.place l.pins)
