use Rattle.std.proofs.Common.{◌∙◌, ap}
use Rattle.plan_tables.specs.declared.tables.PlanTables.{PlanTables}
use Rattle.fault_sim.proofs.passes.LoggedPass.width.Goals as goal

pub returns : goal.returns
returns c = rw (← c.self.view_is) (c.width.ensures.width ∙ ap (λ (p : PlanTables). p.width) c.plan.ensures.value)
