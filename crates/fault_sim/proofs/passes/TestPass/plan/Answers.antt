use Rattle.std.proofs.Common.{◌∙◌, ap}
use Rattle.fault_sim.specs.Planned.{PlannedBoard}
use Rattle.fault_sim.proofs.passes.TestPass.plan.Goals as goal

pub returns : goal.returns
returns c =
    rw (← c.self.view_is)
    (record {
      value = c.plan.ensures.value ∙ ap (λ (t : PlannedBoard). t.plan) c.test.ensures;
      plan = rw c.test.ensures at c.plan.ensures.plan;
      passes = c.self.invariant.passes;
    })
