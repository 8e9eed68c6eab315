use Rattle.std.proofs.Common.{◌≡◌, ℕ, [], get_or, length, take}
use Rattle.driver_passes.specs.inner.Blocks.{has_place}
use Rattle.driver_passes.specs.inner.Drafts.{has_number}
use Rattle.driver_passes.proofs.sharers.sets_of.Given as goal

abbrev pub invariant-loop-places : goal.invariant-loop-places
invariant-loop-places l = record {
  size : length l.sets.items ≡ l.places-index;
  sets : (n q : ℕ) → has_place (get_or l.sets.items n []) q ≡ has_number (get_or (take l.places-index l.lists) n []) q;
}
