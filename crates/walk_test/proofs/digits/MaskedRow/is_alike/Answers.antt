use Rattle.std.proofs.Common.{ℕ, arith}
use Rattle.walk_test.specs.inner.Digits.{differing}
use Rattle.walk_test.proofs.DigitLemmas.{zeros_more, union_more}
use Rattle.walk_test.proofs.digits.MaskedRow.is_alike.Goals as goal

pub loop-k-preserved : goal.loop-k-preserved
loop-k-preserved c =
    let wrong : ℕ → ℕ = differing c.args.self.now.digits.now c.args.other.now c.args.self.now.mask.now in
    record {
      same =
          λ e i less. zeros_more wrong 0 c.loop-k.different c.loop-k.k
          (λ none k low before. c.loop-k.invariant.same none k before) e i (omega arith) less;
      none = union_more wrong c.loop-k.different c.loop-k.k c.loop-k.invariant.none;
    }
