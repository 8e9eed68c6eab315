use Rattle.std.proofs.Common.{◌≡◌, ◌++◌}
use Rattle.std.specs.List.{flat_map, range_with_len}
use Rattle.fault_sim.specs.inner.Suspects.{pair_suspects}
use Rattle.fault_sim.proofs.suspects.push_earlier.Given as goal

abbrev pub invariant-loop-a : goal.invariant-loop-a
invariant-loop-a l = l.places.items ≡ l.fn.places.items ++ flat_map (λ a. pair_suspects l.lists a l.k) (range_with_len 0 l.a)
