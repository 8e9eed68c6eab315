use Rattle.std.proofs.Common.{true, refl, rules, length, ap, ◌∙◌, arith}
use Rattle.plan_tables.specs.Assigned.{code_bit_of_driver}
use Rattle.scan_planner.proofs.FillLemmas.{steady_compared_length}
use Rattle.scan_planner.proofs.board_plan.PassOfPlan.compare_row.Goals as goal

pub expected_row-requires : goal.expected_row-requires
expected_row-requires c = omega (arith, c.requires.row, c.common-common.ensures.count)

pub copy_row-requires : goal.copy_row-requires
copy_row-requires c =
    let test = c.args.self.now.test in
    omega (
      arith,
      ap length (c.common-common.ensures.expected c.args.j c.expected_row.result.now c.expected_row.ensures),
      steady_compared_length test.board c.laws.ensures.rules test.plan c.laws.ensures.plan (code_bit_of_driver test.plan.codes c.args.j),
      c.requires.room.tdo,
    )

pub copy_row-requires-2 : goal.copy_row-requires-2
copy_row-requires-2 c =
    let test = c.args.self.now.test in
    omega (
      arith,
      ap length c.common-common.ensures.stacked.mask,
      steady_compared_length test.board c.laws.ensures.rules test.plan c.laws.ensures.plan (λ d. true),
      c.requires.room.mask,
    )

pub invariant_of-expected : goal.invariant_of-expected
invariant_of-expected c = omega (arith, c.requires.row, c.laws.ensures.few)

pub returns-clause-bits : goal.returns-clause-bits
returns-clause-bits c =
    let expected = c.walk.ensures.expected c.args.j refl
    (c.copy_row.ensures.bits
    ∙ c.common-common.ensures.expected c.args.j c.expected_row.result.now
    c.expected_row.ensures) in
    let marked = c.walk.ensures.mask 0 c.args.j refl (c.copy_row-2.ensures.bits ∙ c.common-common.ensures.stacked.mask) in
    search rules
