use Rattle.std.proofs.Common.{◌∙◌, ℕ, List, [], length, get_or, sym, ap, subst}
use Rattle.board_defs.specs.declared.board.Ctl.{Ctl}
use Rattle.board_defs.specs.declared.board.RawBoard.{RawBoard}
use Rattle.board_defs.specs.Pins.{data_bits}
use Rattle.plan_tables.specs.Tables.{AreFirsts}
use Rattle.plan_tables.specs.declared.tables.PlanTables.{PlanTables}
use Rattle.scan_planner.specs.Planned.{PlannedBoard}
use Rattle.scan_planner.proofs.FillLemmas.{controls_there, quiet_length}
use Rattle.scan_planner.proofs.board_plan.PassOfPlan.controls.Goals as goal

pub invariant_of-result-clause-firsts : goal.invariant_of-result-clause-firsts
invariant_of-result-clause-firsts c =
    let board_is = c.board.ensures ∙ ap (λ (t : PlannedBoard). t.board) c.test-test.ensures in
    let tables_is = c.tables-tables.ensures ∙ ap (λ (t : PlannedBoard). t.plan) c.test-test.ensures in
    subst (λ (b : RawBoard). AreFirsts b.chain c.tables-tables.result.now.firsts) (sym board_is)
    (subst (λ (p : PlanTables). AreFirsts c.args.self.now.test.board.chain p.firsts) (sym tables_is) c.laws.ensures.plan.tables.firsts)

pub invariant_of-result-clause-quiet : goal.invariant_of-result-clause-quiet
invariant_of-result-clause-quiet c =
    let test = c.args.self.now.test in
    ap (λ (p : PlanTables). length p.quiet.bits) (c.tables-tables.ensures ∙ ap (λ (t : PlannedBoard). t.plan) c.test-test.ensures)
    ∙ quiet_length test.board c.laws.ensures.rules test.plan c.laws.ensures.plan
    ∙ sym (ap (λ (b : RawBoard). data_bits b) (c.board.ensures ∙ ap (λ (t : PlannedBoard). t.board) c.test-test.ensures))

pub invariant_of-result-clause-cells : goal.invariant_of-result-clause-cells
invariant_of-result-clause-cells c control held =
    let test = c.args.self.now.test in
    let number = c.args.self.now.number in
    let tables_is = c.tables-tables.ensures ∙ ap (λ (t : PlannedBoard). t.plan) c.test-test.ensures in
    let setting =
    c.pass_at.ensures
    ∙ ap (λ (l : List (List Ctl)). get_or l c.number.result []) (c.as_slice.ensures ∙ ap (λ (p : PlanTables). p.passes) tables_is)
    ∙ ap (λ (n : ℕ). get_or test.plan.passes n []) c.number.ensures.value in
    rw (c.board.ensures ∙ ap (λ (t : PlannedBoard). t.board) c.test-test.ensures)
    (controls_there test.board c.laws.ensures.rules test.plan c.laws.ensures.plan number
    c.laws.ensures.within c.pass_at.result.now setting control held)

pub returns-clause-setting : goal.returns-clause-setting
returns-clause-setting c =
    let tables_is = c.tables-tables.ensures ∙ ap (λ (t : PlannedBoard). t.plan) c.test-test.ensures in
    c.pass_at.ensures
    ∙ ap (λ (l : List (List Ctl)). get_or l c.number.result []) (c.as_slice.ensures ∙ ap (λ (p : PlanTables). p.passes) tables_is)
    ∙ ap (λ (n : ℕ). get_or c.args.self.now.test.plan.passes n []) c.number.ensures.value
