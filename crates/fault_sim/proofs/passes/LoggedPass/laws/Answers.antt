use Rattle.fault_sim.proofs.passes.LoggedPass.laws.Goals as goal

pub returns : goal.returns
returns c =
    rw (← c.self.view_is)
    (record {
      pass = c.first_row-row.ensures.pass;
      plan = c.plan-plan.ensures.plan;
      passes =
          c.plan-plan.ensures.passes;
      log = c.self.invariant;
    })
