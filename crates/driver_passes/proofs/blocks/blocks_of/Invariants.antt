use Rattle.std.proofs.Common.{◌≡◌, ◌||◌, ℕ, take}
use Rattle.driver_passes.specs.inner.Blocks.{block_has, has_place}
use Rattle.driver_passes.specs.inner.Drafts.{has_number}
use Rattle.driver_passes.proofs.blocks.blocks_of.Given as goal

abbrev pub invariant-loop-place : goal.invariant-loop-place
invariant-loop-place l = (q : ℕ) → (has_place l.blocks q || block_has l.last q) ≡ has_number (take l.place-index l.places) q
