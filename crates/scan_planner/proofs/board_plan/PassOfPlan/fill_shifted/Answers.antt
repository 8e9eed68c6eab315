use Rattle.std.proofs.Common.{refl, rules, length, ap, ◌∙◌, arith}
use Rattle.scan_planner.proofs.FillLemmas.{steady_shifted_length}
use Rattle.scan_planner.proofs.board_plan.PassOfPlan.fill_shifted.Goals as goal

pub copy_stacked-requires-clause-number : goal.copy_stacked-requires-clause-number
copy_stacked-requires-clause-number c = omega (arith, c.requires.row, c.laws.ensures.few)

pub copy_stacked-requires-clause-room : goal.copy_stacked-requires-clause-room
copy_stacked-requires-clause-room c =
    let test = c.args.self.now.test in
    omega (
      arith,
      ap length (c.common.ensures.stacked.shifted c.args.j (omega (arith, c.requires.row, c.laws.ensures.few))),
      steady_shifted_length test.board c.laws.ensures.rules test.plan c.laws.ensures.plan c.args.j,
      c.requires.room,
    )

pub invariant_of-shifted : goal.invariant_of-shifted
invariant_of-shifted c = omega (arith, c.requires.row, c.laws.ensures.few)

pub returns-clause-bits : goal.returns-clause-bits
returns-clause-bits c =
    let shifted =
    c.walk.ensures.shifted c.args.j refl c.requires.row
    (c.copy_stacked.ensures.bits ∙ c.common.ensures.stacked.shifted c.args.j (omega (arith, c.requires.row, c.laws.ensures.few))) in
    search rules
