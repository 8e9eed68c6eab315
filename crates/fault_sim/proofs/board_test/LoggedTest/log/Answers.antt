use Rattle.std.proofs.Common.{refl}
use Rattle.fault_sim.proofs.board_test.LoggedTest.log.Goals as goal

pub returns : goal.returns
returns c = rw (← c.self.view_is) (record { value = refl; rows = c.self.invariant })
