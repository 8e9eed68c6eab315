use Rattle.std.proofs.Common.{◌≡◌, ℕ, map, sym, ap, ◌∙◌, subst, arith}
use Rattle.std.specs.Prelude.{slice_get}
use Rattle.tap_defs.specs.chain.Scan.{Scan}
use Rattle.tap_defs.specs.chain.ScanRows.{AreRowsOf}
use Rattle.tap_defs.specs.chain.Codes.{instructs}
use Rattle.tap_defs.specs.board.BoardScans.{extest_code, preload_code, test_scans}
use Rattle.tap_defs.proofs.board.ScanPlaceLemmas.{scans_placed}
use Rattle.plan_tables.specs.declared.tables.PlanTables.{PlanTables}
use Rattle.scan_planner.proofs.FillLemmas.{codes_room, fills}
use Rattle.plan_tables.proofs.SizeLemmas.{extest_sized, preload_sized}
use Rattle.scan_planner.proofs.board_plan.BoardPlan.fill_early.Goals as goal

pub fill_codes-requires : goal.fill_codes-requires
fill_codes-requires c =
    let board = c.args.self.now.board in
    let scan : Scan = instructs (map (λ part. preload_code part.kind) board.chain) in
    let are = subst (λ (p : PlanTables). AreRowsOf scan.bits p.preload) (sym c.tables-tables.ensures) c.laws.ensures.plan.tables.preload in
    codes_room board _ _ _ (preload_sized board c.laws.ensures.rules) are c.requires.room

pub fill_codes-requires-else-k-eq1 : goal.fill_codes-requires-else-k-eq1
fill_codes-requires-else-k-eq1 c =
    let board = c.args.self.now.board in
    let scan : Scan = instructs (map (λ part. extest_code part.kind) board.chain) in
    let are = subst (λ (p : PlanTables). AreRowsOf scan.bits p.extest) (sym c.tables-tables.ensures) c.laws.ensures.plan.tables.extest in
    codes_room board _ _ _ (extest_sized board c.laws.ensures.rules) are c.requires.room

pub returns-then-k-eq0-clause-filled : goal.returns-then-k-eq0-clause-filled
returns-then-k-eq0-clause-filled c =
    let board = c.args.self.now.board in
    let plan = c.args.self.now.plan in
    let s = preload_sized board c.laws.ensures.rules in
    let scan : Scan = instructs (map (λ part. preload_code part.kind) board.chain) in
    let are = subst (λ (p : PlanTables). AreRowsOf scan.bits p.preload) (sym c.tables-tables.ensures) c.laws.ensures.plan.tables.preload in
    let first : c.args.k ≡ 0 = omega arith in
    fills board plan.passes plan.width c.args.k scan _ _ _ _
    (ap (λ (n : ℕ). slice_get (test_scans board plan.passes plan.width) n) first
    ∙ (scans_placed board plan.passes plan.width).preload) s.some s.most
    (c.fill_codes.ensures.bits scan.bits are) c.fill_codes.ensures.ir c.fill_codes.ensures.compare

pub returns-else-k-eq1-clause-filled : goal.returns-else-k-eq1-clause-filled
returns-else-k-eq1-clause-filled c =
    let board = c.args.self.now.board in
    let plan = c.args.self.now.plan in
    let s = extest_sized board c.laws.ensures.rules in
    let scan : Scan = instructs (map (λ part. extest_code part.kind) board.chain) in
    let are = subst (λ (p : PlanTables). AreRowsOf scan.bits p.extest) (sym c.tables-tables.ensures) c.laws.ensures.plan.tables.extest in
    let third : c.args.k ≡ 2 = omega arith in
    fills board plan.passes plan.width c.args.k scan _ _ _ _
    (ap (λ (n : ℕ). slice_get (test_scans board plan.passes plan.width) n) third
    ∙ (scans_placed board plan.passes plan.width).extest) s.some s.most
    (c.fill_codes-else-k-eq1.ensures.bits scan.bits are) c.fill_codes-else-k-eq1.ensures.ir c.fill_codes-else-k-eq1.ensures.compare
