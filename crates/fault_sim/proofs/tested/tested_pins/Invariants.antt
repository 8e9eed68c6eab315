use Rattle.std.proofs.Common.{◌≡◌}
use Rattle.fault_sim.specs.inner.Tested.{all_pins}
use Rattle.fault_sim.proofs.tested.tested_pins.Given as goal

abbrev pub invariant-loop-net : goal.invariant-loop-net
invariant-loop-net l = l.pins.items ≡ all_pins l.board l.plan l.net
