use Rattle.std.proofs.Common.{◌≡◌, ◌-◌, drop, take}
use Rattle.bt_bits.specs.inner.Digits.{digits_text}
use Rattle.bt_bits.proofs.digits.fill_text.Given as goal

abbrev pub invariant-loop-k : goal.invariant-loop-k
invariant-loop-k l = drop (l.count - l.k) l.text ≡ digits_text (take l.k l.digits)
