use Rattle.std.proofs.Common.{◌∙◌, length, ap}
use Rattle.plan_tables.specs.declared.tables.PlanTables.{PlanTables}
use Rattle.fault_sim.proofs.board_test.LoggedTest.pass_count.Goals as goal

pub returns : goal.returns
returns c = rw (← c.self.view_is) (c.pass_count.ensures ∙ ap (λ (p : PlanTables). length p.passes) c.plan.ensures.value)
