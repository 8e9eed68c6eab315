use Rattle.std.proofs.Common.{◌≡◌, ◌<◌, ◌≤◌, ℕ, get_or, w64}
use Rattle.std.specs.Int.{bit_not}
use Rattle.std.specs.Int.Bits.{bit_and}
use Rattle.driver_passes.proofs.number_set.clear_from.Given as goal

abbrev pub invariant-loop-i : goal.invariant-loop-i
invariant-loop-i l = record {
  done : (k : ℕ) → l.first ≤ k → k < l.i → get_or l.words k 0 ≡ bit_and (get_or l.initial.words k 0) (bit_not w64 (get_or l.others k 0));
  rest : (k : ℕ) → l.i ≤ k → get_or l.words k 0 ≡ get_or l.initial.words k 0;
}
