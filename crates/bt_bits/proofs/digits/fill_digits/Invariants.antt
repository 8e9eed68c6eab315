use Rattle.std.proofs.Common.{◌-◌, take, nat_lt}
use Rattle.bt_bits.specs.inner.Digits.{AreDigitsFrom}
use Rattle.bt_bits.proofs.digits.fill_digits.Given as goal

abbrev pub invariant-loop-k : goal.invariant-loop-k
invariant-loop-k l = AreDigitsFrom l.text (l.count - l.k) (take l.k l.digits) (nat_lt l.most 16)
