use Rattle.std.proofs.Common.{take}
use Rattle.driver_passes.specs.inner.Tested.{AreNoted, drives}
use Rattle.driver_passes.proofs.tested.list_drivers.Given as goal

abbrev pub invariant-loop-d : goal.invariant-loop-d
invariant-loop-d l = AreNoted l.board l.net (λ c. drives c (take l.d-index l.drivers)) l.initial.lists l.lists
