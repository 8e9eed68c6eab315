use Rattle.std.proofs.Common.{◌≡◌, ◌<◌, ◌≤◌, ℕ, false, suc, cond, length, take, get_or}
use Rattle.std.specs.Prelude.{count_by}
use Rattle.plan_tables.proofs.codes.number_nets.Given as goal

abbrev pub invariant-loop-is_seen : goal.invariant-loop-is_seen
invariant-loop-is_seen l = record {
  count : l.count ≡ count_by (λ b. b) (take l.is_seen-index l.seen);
  most : l.count ≤ l.is_seen-index;
  length_is : length l.codes.items ≡ l.is_seen-index;
  each : (n : ℕ) → n < l.is_seen-index
      → get_or l.codes.items n 0
      ≡ cond (get_or l.seen n false) (suc (count_by (λ b. b) (take n l.seen))) 0;
}
