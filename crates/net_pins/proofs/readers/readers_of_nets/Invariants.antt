use Rattle.std.proofs.Common.{◌≡◌, map, take}
use Rattle.net_pins.specs.NetCells.{readers_of}
use Rattle.net_pins.proofs.readers.readers_of_nets.Given as goal

abbrev pub invariant-loop-net : goal.invariant-loop-net
invariant-loop-net l = l.readers.items ≡ map (λ net. readers_of l.board net.pins) (take l.net-index l.nets)
