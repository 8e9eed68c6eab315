use Rattle.std.proofs.Common.{ℕ, ◌<◌, true, refl, rules, length, ap, ◌∙◌, arith}
use Rattle.plan_tables.specs.Assigned.{code_bit_of_driver}
use Rattle.scan_planner.proofs.FillLemmas.{steady_compared_length, steady_shifted_length}
use Rattle.scan_planner.proofs.board_plan.PassOfPlan.fill_rows.Goals as goal

pub copy_from-requires : goal.copy_from-requires
copy_from-requires c =
    let test = c.args.self.now.test in
    let all = c.common.ensures.stacked in
    let first : 0 < 16 = omega arith in
    let shifted = steady_shifted_length test.board c.laws.ensures.rules test.plan c.laws.ensures.plan 0 in
    let compared = steady_compared_length test.board c.laws.ensures.rules test.plan c.laws.ensures.plan in
    record {
      shifted = omega (arith, ap length (all.shifted 0 first), shifted, c.requires.shifted);
      expected = omega (arith, ap length (all.expected 0 first), compared (code_bit_of_driver test.plan.codes 0), c.requires.expected);
      mask = omega (arith, ap length all.mask, compared (λ d. true), c.requires.mask);
    }

pub returns-clause-rows : goal.returns-clause-rows
returns-clause-rows c =
    let stacked_row : (j : ℕ) → j < c.args.self.now.test.plan.width → j < 16 = λ j row. omega (arith, row, c.laws.ensures.few) in
    record {
      within = c.laws.ensures.within;
      shifted =
          λ j row. c.walk.ensures.shifted j (stacked_row j row) row
          (c.copy_from.ensures.shifted j (stacked_row j row)
          ∙ c.common.ensures.stacked.shifted j (stacked_row j row));
      expected =
          λ j row. c.walk.ensures.expected j (stacked_row j row)
          (c.copy_from.ensures.expected j (stacked_row j row)
          ∙ c.common.ensures.stacked.expected j (stacked_row j row));
      mask = λ j row.
          let marked = c.walk.ensures.mask 0 j refl (c.copy_from.ensures.mask ∙ c.common.ensures.stacked.mask) in
          search rules;
    }
