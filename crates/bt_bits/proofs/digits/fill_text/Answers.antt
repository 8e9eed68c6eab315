use Rattle.std.proofs.Common.{length, arith}
use Rattle.bt_bits.proofs.TextLemmas.{filled_more}
use Rattle.bt_bits.proofs.digits.fill_text.Goals as goal

pub loop-k-preserved : goal.loop-k-preserved
loop-k-preserved c =
    filled_more c.args.digits.now c.loop-k.text (length c.args.text.now) c.loop-k.k
    c.digit_char.result (omega arith) (omega arith) (omega arith) c.loop-k.invariant
    c.digit_char.ensures
