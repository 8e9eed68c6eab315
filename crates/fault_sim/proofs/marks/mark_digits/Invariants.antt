use Rattle.std.proofs.Common.{◌≡◌, ℕ, ◌<◌, ◌≤◌, length, get_or}
use Rattle.std.specs.Int.Bits.{bit_and, bit_xor}
use Rattle.fault_sim.proofs.marks.mark_digits.Given as goal

abbrev pub invariant-loop-k : goal.invariant-loop-k
invariant-loop-k l = record {
  long : length l.marks ≡ length l.fn.marks;
  done : (i : ℕ) → i < l.k → get_or l.marks i 0 ≡ 0
      → (get_or l.fn.marks i 0 ≡ 0)
      × (bit_and (bit_xor (get_or l.log i 0) (get_or l.expected i 0)) (get_or l.compared i 0) ≡ 0);
  left : (i : ℕ) → l.k ≤ i → get_or l.marks i 0 ≡ get_or l.fn.marks i 0;
}
