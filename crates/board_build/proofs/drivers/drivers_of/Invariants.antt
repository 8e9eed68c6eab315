use Rattle.std.proofs.Common.{◌≡◌, take}
use Rattle.board_build.proofs.drivers.drivers_of.Given as goal

abbrev pub invariant-loop-part : goal.invariant-loop-part
invariant-loop-part l = l.drivers.items ≡ take l.part-index l.parts
