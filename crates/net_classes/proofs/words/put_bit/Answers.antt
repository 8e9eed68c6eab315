use Rattle.std.proofs.Common.{◌%◌, w64, arith}
use Rattle.std.proofs.lemmas.Nat.Bits.{bit_at_clear_other, bit_at_clear_same, bit_at_set_other, bit_at_set_same}
use Rattle.net_classes.proofs.words.put_bit.Goals as goal

pub returns-then-on : goal.returns-then-on
returns-then-on c = record {
  here = rw (c.if-on.true) (bit_at_set_same w64 c.args.word (c.args.number % 64) (omega arith));
  others = λ i within other. bit_at_set_other w64 c.args.word (c.args.number % 64) (omega arith) i other;
}

pub returns-else-on : goal.returns-else-on
returns-else-on c = record {
  here = rw (c.if-on.false) (bit_at_clear_same w64 c.args.word (c.args.number % 64) (omega arith));
  others = bit_at_clear_other w64 c.args.word (c.args.number % 64) (omega arith);
}
