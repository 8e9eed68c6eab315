use Rattle.std.proofs.Common.{refl}
use Rattle.fault_sim.proofs.board_test.LoggedTest.pass.Goals as goal

pub pass-requires : goal.pass-requires
pass-requires c = rw (← c.self.view_is) at c.requires

pub invariant_of-result : goal.invariant_of-result
invariant_of-result c = rw c.pass.ensures c.self.invariant

pub returns : goal.returns
returns c = rw (c.pass.ensures, ← c.self.view_is) refl
