use Rattle.std.proofs.Common.{◌≡◌, ◌≤◌, ◌++◌, ◌-◌, suc, length, max}
use Rattle.std.specs.List.{flat_map, range_with_len}
use Rattle.fault_sim.specs.inner.Suspects.{pair_suspects}
use Rattle.fault_sim.proofs.suspects.push_later.Given as goal

abbrev pub invariant-loop-b : goal.invariant-loop-b
invariant-loop-b l = record {
  within : l.b ≤ max (suc l.k) (length l.lists.nets);
  places : l.places.items ≡ l.fn.places.items ++ flat_map (λ b. pair_suspects l.lists l.k b) (range_with_len (suc l.k) (l.b - suc l.k));
}
