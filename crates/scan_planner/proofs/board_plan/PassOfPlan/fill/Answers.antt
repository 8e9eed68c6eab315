use Rattle.std.proofs.Common.{refl}
use Rattle.scan_planner.proofs.FillLemmas.{fills_row}
use Rattle.scan_planner.proofs.board_plan.PassOfPlan.fill.Goals as goal

pub returns-clause-filled : goal.returns-clause-filled
returns-clause-filled c =
    let pass = c.args.self.now in
    fills_row pass.test.board c.laws.ensures.rules pass.test.plan c.laws.ensures.plan pass.number
    c.laws.ensures.within c.args.j c.requires.row _ _ _ _
    refl
    (record { tdi = c.shift.ensures.bits; tdo = c.compare_before.ensures.bits.tdo; mask = c.compare_before.ensures.bits.mask })
    c.compare_before.ensures.compare
