use Rattle.std.proofs.Common.{◌≡◌}
use Rattle.driver_passes.specs.inner.Progress.{drivers_from}
use Rattle.driver_passes.proofs.drivers.first_driver.Given as goal

abbrev pub invariant-loop-net : goal.invariant-loop-net
invariant-loop-net l = drivers_from l.board l.net ≡ drivers_from l.board 0
