use Rattle.std.proofs.Common.{length, nat_lt}
use Rattle.bt_bits.proofs.TextLemmas.{read_digit, read_whole}
use Rattle.bt_bits.proofs.digits.fill_digits.Goals as goal

pub loop-k-preserved : goal.loop-k-preserved
loop-k-preserved c =
    read_digit c.args.text.now c.loop-k.digits (length c.args.digits.now) c.loop-k.k c.loop-k.most
    c.value_of-value.result c.max-most.result c.requires c.loop-k.auto.digits c.loop-k-test.true
    c.max-most.ensures c.value_of-value.ensures c.loop-k.invariant

pub returns : goal.returns
returns c =
    read_whole c.args.text.now c.loop-k.digits (length c.args.digits.now) c.loop-k.k
    (nat_lt c.loop-k.most 16) c.loop-k.auto.digits c.loop-k-test.false c.loop-k.invariant
