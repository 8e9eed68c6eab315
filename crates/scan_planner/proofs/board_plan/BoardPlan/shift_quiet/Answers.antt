use Rattle.std.proofs.Common.{length, ap, ◌∙◌, arith}
use Rattle.plan_tables.specs.declared.tables.PlanTables.{PlanTables}
use Rattle.scan_planner.proofs.FillLemmas.{quiet_length, quiet_is}
use Rattle.scan_planner.proofs.board_plan.BoardPlan.shift_quiet.Goals as goal

pub copy_row-requires : goal.copy_row-requires
copy_row-requires c =
    let test = c.args.self.now in
    omega (
      arith,
      ap (λ (p : PlanTables). length p.quiet.bits) c.tables-tables.ensures,
      quiet_length test.board c.laws.ensures.rules test.plan c.laws.ensures.plan,
      c.requires,
    )

pub returns-clause-bits : goal.returns-clause-bits
returns-clause-bits c scan quiet =
    let test = c.args.self.now in
    c.copy_row.ensures.bits
    ∙ ap (λ (p : PlanTables). p.quiet.bits) c.tables-tables.ensures
    ∙ quiet_is test.board c.laws.ensures.rules test.plan c.laws.ensures.plan scan quiet
