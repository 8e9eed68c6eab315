use Rattle.std.proofs.Common.{◌≡◌, ◌++◌}
use Rattle.std.specs.List.{flat_map, range_with_len}
use Rattle.fault_sim.specs.inner.Suspects.{pin_suspects}
use Rattle.fault_sim.proofs.suspects.push_pins.Given as goal

abbrev pub invariant-loop-i : goal.invariant-loop-i
invariant-loop-i l = l.places.items ≡ l.fn.places.items ++ flat_map (pin_suspects l.lists l.n) (range_with_len 0 l.i)
