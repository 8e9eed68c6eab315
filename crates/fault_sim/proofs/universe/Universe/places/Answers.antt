use Rattle.std.proofs.Common.{length, arith}
use Rattle.fault_sim.proofs.PlaceLemmas.{before_few}
use Rattle.fault_sim.proofs.universe.Universe.places.Goals as goal

pub overflow_mul-result-3 : goal.overflow_mul-result-3
overflow_mul-result-3 c =
    let n = length c.self.inside.lists.nets in
    omega (arith, c.pair_count.ensures, before_few n n c.self.inside.lists.few)

pub overflow_add-result : goal.overflow_add-result
overflow_add-result c =
    let n = length c.self.inside.lists.nets in
    omega (
      arith,
      c.pair_count.ensures,
      before_few n n c.self.inside.lists.few,
      c.len-pins.ensures,
      c.self.inside.lists.few_pins,
    )

pub overflow_add-result-2 : goal.overflow_add-result-2
overflow_add-result-2 c =
    let n = length c.self.inside.lists.nets in
    omega (
      arith,
      c.pair_count.ensures,
      before_few n n c.self.inside.lists.few,
      c.len-pins.ensures,
      c.self.inside.lists.few_pins,
      c.len-nets.ensures,
      c.self.inside.lists.few,
    )
