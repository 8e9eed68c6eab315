use Rattle.std.proofs.Common.{◌≡◌, ◌+◌, ◌-◌, ◌<◌, ◌≤◌, ℕ, length, slice_index}
use Rattle.net_facts.proofs.found.meet.Given as goal

abbrev pub invariant-loop-i : goal.invariant-loop-i
invariant-loop-i l = record {
  first : l.i ≤ length l.a;
  second : l.j ≤ length l.b;
  ahead : (x y : ℕ) → x < length l.a → y < length l.b → slice_index l.a x ≡ slice_index l.b y → (l.i ≤ x) × (l.j ≤ y);
}

abbrev pub decreases-loop-i : goal.decreases-loop-i
decreases-loop-i l = (length l.a - l.i) + (length l.b - l.j)
