use Rattle.std.proofs.Common.{◌&&◌, ℕ, Bool, not, arith}
use Rattle.driver_passes.specs.inner.NumberSets.{is_in}
use Rattle.driver_passes.proofs.NumberSetLemmas.{passed_more}
use Rattle.driver_passes.proofs.number_set.NumberSet.first_outside.Goals as goal

pub loop-number-preserved : goal.loop-number-preserved
loop-number-preserved c =
    let p : ℕ → Bool = λ n. is_in c.args.self.now n && not (is_in c.args.others.now n) in
    let number = c.loop-number.number in
    record {
      further = omega (arith, c.loop-number.invariant.further, c.past_word-number.ensures.further);
      passed =
          passed_more p c.args.from number c.past_word-number.result c.loop-number.invariant.passed
          (λ n least below. c.in_default.ensures p c.word_less.ensures n least
          (omega (arith, below, c.past_word-number.ensures.within)));
    }
