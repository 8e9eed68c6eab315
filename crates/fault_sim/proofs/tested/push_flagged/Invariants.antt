use Rattle.std.proofs.Common.{◌≡◌, ◌++◌}
use Rattle.fault_sim.specs.inner.Tested.{flagged_before}
use Rattle.fault_sim.proofs.tested.push_flagged.Given as goal

abbrev pub invariant-loop-place : goal.invariant-loop-place
invariant-loop-place l = l.pins.items ≡ l.fn.pins.items ++ flagged_before l.net l.flags l.place
