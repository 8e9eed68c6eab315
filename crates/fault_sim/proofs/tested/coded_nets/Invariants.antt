use Rattle.std.proofs.Common.{◌≡◌}
use Rattle.fault_sim.specs.inner.Tested.{coded_nets}
use Rattle.fault_sim.proofs.tested.coded_nets.Given as goal

abbrev pub invariant-loop-n : goal.invariant-loop-n
invariant-loop-n l = l.nets.items ≡ coded_nets l.plan l.n
