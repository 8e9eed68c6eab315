use Rattle.std.proofs.Common.{get_or}
use Rattle.std.specs.Int.Bits.{bit_and}
use Rattle.walk_test.proofs.DigitLemmas.{zeros_more}
use Rattle.walk_test.proofs.digits.MaskedRow.are_clear.Goals as goal

pub loop-k-preserved : goal.loop-k-preserved
loop-k-preserved c =
    let row = c.args.self.now in
    zeros_more (λ i. bit_and (get_or row.digits.now i 0) (get_or row.mask.now i 0)) c.args.from c.loop-k.ones c.loop-k.k c.loop-k.invariant
