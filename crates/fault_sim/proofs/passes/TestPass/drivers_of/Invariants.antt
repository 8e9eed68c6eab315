use Rattle.std.proofs.Common.{◌≡◌, length}
use Rattle.fault_sim.specs.Kept.{AreDrivers}
use Rattle.fault_sim.specs.Planned.{controls_of}
use Rattle.fault_sim.proofs.passes.TestPass.drivers_of.Given as goal

abbrev pub invariant-loop-n : goal.invariant-loop-n
invariant-loop-n l = (length l.drivers.items ≡ l.n) × AreDrivers l.self.test.plan (controls_of l.self) l.drivers.items
