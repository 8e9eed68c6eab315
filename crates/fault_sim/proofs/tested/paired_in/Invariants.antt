use Rattle.std.proofs.Common.{◌≡◌, ◌&&◌, ◌<◌, ℕ, [], false}
use Rattle.std.specs.Prelude.{slice_index_or}
use Rattle.fault_sim.specs.inner.Tested.{observes_in}
use Rattle.fault_sim.proofs.tested.paired_in.Given as goal

-- no earlier pass observes both nets
abbrev pub invariant-loop-x : goal.invariant-loop-x
invariant-loop-x l =
    (k : ℕ) → k < l.x
    → (observes_in l.plan (slice_index_or l.plan.passes k []) l.a
    && observes_in l.plan (slice_index_or l.plan.passes k []) l.b) ≡ false
