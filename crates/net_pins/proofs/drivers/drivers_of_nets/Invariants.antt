use Rattle.std.proofs.Common.{◌≡◌, map, take}
use Rattle.net_pins.specs.NetCells.{drivers_of}
use Rattle.net_pins.proofs.drivers.drivers_of_nets.Given as goal

abbrev pub invariant-loop-n : goal.invariant-loop-n
invariant-loop-n l = l.drivers.items ≡ map (drivers_of l.board) (take l.n l.nets)
