use Rattle.std.proofs.Common.{◌<◌, length, refl, subst}
use Rattle.board_defs.specs.BoardRules.{IsBoard}
use Rattle.plan_tables.specs.Plans.{IsPlanOf}
use Rattle.scan_planner.specs.Planned.{PlannedPass}
use Rattle.scan_planner.proofs.FillLemmas.{fills_row}
use Rattle.scan_planner.proofs.NextLemmas.{mask_stands}
use Rattle.scan_planner.proofs.next.PassWithRows.fill.Goals as goal

pub compare_before-requires-clause-stands : goal.compare_before-requires-clause-stands
compare_before-requires-clause-stands c later =
    let pass = c.args.self.now in
    let rules = subst (λ (p : PlannedPass). IsBoard p.test.board) c.self.view_is c.laws.ensures.rules in
    let plan = subst (λ (p : PlannedPass). IsPlanOf p.test.board p.test.plan) c.self.view_is c.laws.ensures.plan in
    let within = subst (λ (p : PlannedPass). p.number < length p.test.plan.passes) c.self.view_is c.laws.ensures.within in (
      mask_stands pass.test.board rules pass.test.plan plan pass.number c.args.j within later
          c.requires.row c.args.before _ _ _ c.requires.before,
      c.requires.before.compare,
    )

pub returns-clause-filled : goal.returns-clause-filled
returns-clause-filled c =
    let pass = c.args.self.now in
    let rules = subst (λ (p : PlannedPass). IsBoard p.test.board) c.self.view_is c.laws.ensures.rules in
    let plan = subst (λ (p : PlannedPass). IsPlanOf p.test.board p.test.plan) c.self.view_is c.laws.ensures.plan in
    let within = subst (λ (p : PlannedPass). p.number < length p.test.plan.passes) c.self.view_is c.laws.ensures.within in
    fills_row pass.test.board rules pass.test.plan plan pass.number within c.args.j c.requires.row _ _ _ _
    refl
    (record { tdi = c.shift.ensures.bits; tdo = c.compare_before.ensures.bits.tdo; mask = c.compare_before.ensures.bits.mask })
    c.compare_before.ensures.compare
