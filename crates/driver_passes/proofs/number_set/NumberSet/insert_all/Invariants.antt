use Rattle.std.proofs.Common.{◌≡◌, ◌||◌, ℕ, take, length}
use Rattle.driver_passes.specs.inner.Drafts.{has_number}
use Rattle.driver_passes.specs.inner.NumberSets.{is_in}
use Rattle.driver_passes.proofs.number_set.NumberSet.insert_all.Given as goal

abbrev pub invariant-loop-number : goal.invariant-loop-number
invariant-loop-number l = record {
  room : length l.self ≡ length l.initial.self;
  numbers : (n : ℕ) → is_in l.self n ≡ (has_number (take l.number-index l.numbers) n || is_in l.initial.self n);
}
