use Rattle.std.proofs.Common.{◌≡◌, ◌*◌, take}
use Rattle.bt_bits.specs.Digits.{digits_of}
use Rattle.bt_bits.proofs.digits.fill_values.Given as goal

abbrev pub invariant-loop-k : goal.invariant-loop-k
invariant-loop-k l = take l.k l.digits ≡ digits_of (take (4 * l.k) l.bits)
