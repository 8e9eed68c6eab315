use Rattle.std.proofs.Common.{◌≡◌, take}
use Rattle.std.specs.Prelude.{map}
use Rattle.bt_bits.specs.Stacks.{digit_in}
use Rattle.bt_bits.proofs.stack.fill_digits.Given as goal

abbrev pub invariant-loop-k : goal.invariant-loop-k
invariant-loop-k l = take l.k l.digits ≡ map (digit_in l.number) (take l.k l.words)
