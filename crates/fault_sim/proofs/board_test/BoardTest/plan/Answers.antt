use Rattle.fault_sim.proofs.board_test.BoardTest.plan.Goals as goal

pub returns : goal.returns
returns c = rw (← c.self.view_is) (record { value = c.plan.ensures.value; plan = c.plan.ensures.plan; passes = c.self.invariant.passes })
