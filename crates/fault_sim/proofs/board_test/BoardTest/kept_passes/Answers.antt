use Rattle.std.proofs.Common.{◌+◌, ◌∙◌, [], ℕ, List, get_or, length, ap, sym, subst, arith}
use Rattle.std.proofs.lemmas.List.{length_push}
use Rattle.plan_tables.specs.declared.tables.PlanTables.{PlanTables}
use Rattle.fault_sim.specs.declared.kept.KeptPass.{KeptPass}
use Rattle.fault_sim.specs.Kept.{AreDrivers, AreComparedRows, KeepDrivers, KeepRows}
use Rattle.fault_sim.specs.Planned.{PlannedPass, controls_of}
use Rattle.scan_planner.proofs.NumberedLemmas.{each_more}
use Rattle.fault_sim.proofs.board_test.BoardTest.kept_passes.Goals as goal

pub pass-pass-requires : goal.pass-pass-requires
pass-pass-requires c =
    omega (
      arith,
      c.loop-x-test.true,
      c.kept_count-x-end.ensures,
      ap (λ (p : PlanTables). length p.passes) c.plan.ensures.value,
    )

pub loop-x-preserved : goal.loop-x-preserved
loop-x-preserved c =
    let board = c.args.self.now.board in
    let plan = c.args.self.now.plan in
    let kept = c.loop-x.kept.items in
    let pass = c.in_ok-keep.field-0 in
    let place = sym c.loop-x.invariant.count in
    let is = c.pass-pass.ensures in
    let rows = subst (λ (p : PlannedPass). AreComparedRows p.test.board p.test.plan p.number pass.rows) is c.in_ok-keep.ensures.rows in
    let drivers = subst (λ (p : PlannedPass). AreDrivers p.test.plan (controls_of p) pass.drivers) is c.in_ok-keep.ensures.drivers in
    record {
      count =
          ap (λ (l : List KeptPass). length l) c.in_ok-push.ensures.items ∙ length_push kept pass
          ∙ ap (λ (n : ℕ). n + 1) c.loop-x.invariant.count;
      rows =
          subst (λ (l : List KeptPass). KeepRows board plan l) (sym c.in_ok-push.ensures.items)
          (each_more (λ x v. AreComparedRows board plan x v.rows) kept pass c.loop-x.invariant.rows
          (subst (λ (x : ℕ). AreComparedRows board plan x pass.rows) place rows));
      drivers =
          subst (λ (l : List KeptPass). KeepDrivers plan l) (sym c.in_ok-push.ensures.items)
          (each_more (λ x v. AreDrivers plan (get_or plan.passes x []) v.drivers) kept pass
          c.loop-x.invariant.drivers
          (subst (λ (x : ℕ). AreDrivers plan (get_or plan.passes x []) pass.drivers) place
          drivers));
    }
