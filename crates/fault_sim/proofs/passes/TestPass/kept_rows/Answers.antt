use Rattle.fault_sim.proofs.passes.TestPass.kept_rows.Goals as goal

pub returns : goal.returns
returns c = rw (← c.self.view_is) c.self.invariant.rows_are
