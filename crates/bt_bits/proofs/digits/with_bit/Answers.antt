use Rattle.std.proofs.Common.{rules, arith, ◌≡◌}
use Rattle.bt_bits.specs.Digits.{bit_value}
use Rattle.bt_bits.proofs.DigitLemmas.{with_bit-sum, with_bit-lt}
use Rattle.bt_bits.proofs.digits.with_bit.Goals as goal

pub overflow_add-result : goal.overflow_add-result
overflow_add-result c =
    let is : c.from.result ≡ bit_value c.args.bit = search rules in
    let sum = with_bit-sum c.args.digit c.args.k c.from.result c.args.bit c.requires (omega arith) is in
    omega (arith, with_bit-lt c.args.digit c.args.k c.args.bit c.requires (omega arith), sum)

pub returns : goal.returns
returns c =
    let is : c.from.result ≡ bit_value c.args.bit = search rules in
    with_bit-sum c.args.digit c.args.k c.from.result c.args.bit c.requires (omega arith) is
