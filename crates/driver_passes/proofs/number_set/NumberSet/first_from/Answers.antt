use Rattle.std.proofs.Common.{arith}
use Rattle.driver_passes.specs.inner.NumberSets.{is_in}
use Rattle.driver_passes.proofs.NumberSetLemmas.{passed_more}
use Rattle.driver_passes.proofs.number_set.NumberSet.first_from.Goals as goal

pub loop-number-preserved : goal.loop-number-preserved
loop-number-preserved c =
    let p = is_in c.args.self.now in
    let number = c.loop-number.number in
    record {
      further = omega (arith, c.loop-number.invariant.further, c.past_word-number.ensures.further);
      passed =
          passed_more p c.args.from number c.past_word-number.result c.loop-number.invariant.passed
          (λ n least below. c.in_default.ensures p c.word.ensures.bits n least
          (omega (arith, below, c.past_word-number.ensures.within)));
    }
