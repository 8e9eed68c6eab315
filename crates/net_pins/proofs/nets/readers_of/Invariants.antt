use Rattle.std.proofs.Common.{◌≡◌, take}
use Rattle.net_pins.specs.NetCells.{readers_of}
use Rattle.net_pins.proofs.nets.readers_of.Given as goal

abbrev pub invariant-loop-place : goal.invariant-loop-place
invariant-loop-place l = l.readers.items ≡ readers_of l.board (take l.place l.pins)
