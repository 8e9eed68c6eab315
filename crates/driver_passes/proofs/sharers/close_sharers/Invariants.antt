use Rattle.std.proofs.Common.{◌≡◌, ◌&&◌, ℕ, not, take}
use Rattle.driver_passes.specs.inner.NumberSets.{is_in}
use Rattle.driver_passes.specs.inner.Sharers.{is_listed}
use Rattle.driver_passes.proofs.sharers.close_sharers.Given as goal

abbrev pub invariant-loop-net : goal.invariant-loop-net
invariant-loop-net l = (q : ℕ) → is_in l.free q ≡ (is_in l.initial.free q && not (is_listed l.sharers (take l.net-index l.nets) q))
