use Rattle.std.proofs.Common.{◌≡◌, ◌≤◌, ◌*◌, take, vec_capacity}
use Rattle.std.specs.Prelude.{map}
use Rattle.bt_bits.proofs.stack.spread_digits.Given as goal

abbrev pub invariant-loop-k : goal.invariant-loop-k
invariant-loop-k l = record {
  words : take l.k l.words.items ≡ map (λ x. x * 1229782938247303441) (take l.k l.digits);
  capacity : vec_capacity l.fn.words ≤ vec_capacity l.words;
}
