use Rattle.std.proofs.Common.{◌≡◌, ◌&&◌, ℕ, not, take}
use Rattle.driver_passes.specs.inner.Blocks.{has_place}
use Rattle.driver_passes.specs.inner.NumberSets.{is_in}
use Rattle.driver_passes.proofs.sharers.close.Given as goal

abbrev pub invariant-loop-block : goal.invariant-loop-block
invariant-loop-block l = (q : ℕ) → is_in l.free q ≡ (is_in l.initial.free q && not (has_place (take l.block-index l.blocks) q))
