use Rattle.std.proofs.Common.{◌≡◌, ◌+◌, ◌≤◌, ℕ, length}
use Rattle.std.specs.Prelude.{slice_index_or}
use Rattle.fault_sim.specs.Starts.{pairs_before}
use Rattle.fault_sim.proofs.universe.pair_starts.Given as goal

abbrev pub invariant-loop-a : goal.invariant-loop-a
invariant-loop-a l =
    (length l.starts.items ≡ l.a + 1) × (l.start ≡ pairs_before l.nets l.a)
    × ((k : ℕ) → k ≤ l.a → slice_index_or l.starts.items k 0 ≡ pairs_before l.nets k)
