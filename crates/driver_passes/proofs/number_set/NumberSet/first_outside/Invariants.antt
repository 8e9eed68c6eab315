use Rattle.std.proofs.Common.{◌≡◌, ◌-◌, ◌≤◌, ◌<◌, ◌&&◌, ℕ, false, not}
use Rattle.driver_passes.specs.inner.NumberSets.{is_in}
use Rattle.driver_passes.proofs.number_set.NumberSet.first_outside.Given as goal

abbrev pub invariant-loop-number : goal.invariant-loop-number
invariant-loop-number l = record {
  further : l.from ≤ l.number;
  passed : (n : ℕ) → l.from ≤ n → n < l.number → (is_in l.self n && not (is_in l.others n)) ≡ false;
}

abbrev pub decreases-loop-number : goal.decreases-loop-number
decreases-loop-number l = l.end - l.number
