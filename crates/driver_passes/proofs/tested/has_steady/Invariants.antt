use Rattle.std.proofs.Common.{◌≡◌, [], false, take}
use Rattle.board_defs.specs.Passes.{shows}
use Rattle.driver_passes.proofs.tested.has_steady.Given as goal

abbrev pub invariant-loop-d : goal.invariant-loop-d
invariant-loop-d l = shows (take l.d-index l.drivers) [] ≡ false
