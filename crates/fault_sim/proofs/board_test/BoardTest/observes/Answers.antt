use Rattle.std.proofs.Common.{◌∙◌, ap}
use Rattle.plan_tables.specs.declared.tables.PlanTables.{PlanTables}
use Rattle.fault_sim.specs.Places.{observes_fault}
use Rattle.fault_sim.proofs.board_test.BoardTest.observes.Goals as goal

pub observes_fault-requires : goal.observes_fault-requires
observes_fault-requires c = rw c.plan.ensures.value c.kept.ensures.drivers

pub returns : goal.returns
returns c = c.observes_fault.ensures ∙ ap (λ (p : PlanTables). observes_fault p c.args.fault) c.plan.ensures.value
