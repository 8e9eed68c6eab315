use Rattle.std.proofs.Common.{◌∙◌, [], get_or, ap}
use Rattle.plan_tables.specs.declared.tables.PlanTables.{PlanTables}
use Rattle.fault_sim.specs.Planned.{PlannedBoard, plan_pass, planned_pass}
use Rattle.fault_sim.proofs.KeptLemmas.{rows_kept}
use Rattle.fault_sim.proofs.board_test.BoardTest.pass.Goals as goal

pub pass-requires : goal.pass-requires
pass-requires c = rw c.board_plan.ensures c.requires

pub of-requires : goal.of-requires
of-requires c = rw c.plan.ensures.value (record { kept = c.kept-kept.ensures.drivers; pass = c.requires })

pub invariant_of-result : goal.invariant_of-result
invariant_of-result c =
    let test = c.args.self.now in
    let x = c.args.x in
    rw (c.pass.ensures, c.board_plan.ensures)
    (record {
      passes = c.plan.ensures.passes;
      drivers_are = c.of.ensures ∙ ap (λ (p : PlanTables). plan_pass p (get_or p.passes x [])) c.plan.ensures.value;
      rows_are = rw c.kept_rows.ensures (rows_kept test.board test.plan c.kept-kept.result.now c.kept-kept.ensures.rows x);
    })

pub returns : goal.returns
returns c = c.pass.ensures ∙ ap (λ (t : PlannedBoard). planned_pass t c.args.x) c.board_plan.ensures
