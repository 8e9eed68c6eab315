use Rattle.fault_sim.proofs.kept_test.KeptTest.test.Goals as goal

pub with_kept-requires-clause-rows : goal.with_kept-requires-clause-rows
with_kept-requires-clause-rows c = rw c.deref.ensures.value c.self.invariant.rows
