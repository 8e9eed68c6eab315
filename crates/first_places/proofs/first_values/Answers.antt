-- The value of an earlier item replaces the value of a later item with the same key.
use Rattle.std.proofs.Common.{◌≡◌, ◌-◌, ◌+◌, ◌<◌, length, sym, arith}
use Rattle.indexmap.specs.IndexMap.{get}
use Rattle.first_places.proofs.PlaceLemmas.{value_step}
use Rattle.first_places.proofs.first_values.Goals as goal

pub loop-i-preserved : goal.loop-i-preserved
loop-i-preserved g c =
    let eq = g.K.PartialEq.eq in
    let within : c.loop-i.i - 1 < length c.args.items.now = omega (arith, c.loop-i-test.true, c.loop-i.invariant.within) in
    let next : c.loop-i.i ≡ c.loop-i.i - 1 + 1 = omega (arith, c.loop-i-test.true) in
    record {
      within = omega (arith, within);
      values =
          λ q. value_step eq c.args.items.now (c.loop-i.i - 1) c.loop-i.i c.index-items-i.result q
          (get eq c.insert.new.self q) (get eq c.loop-i.values q) within (sym c.index-items-i.is)
          next (c.loop-i.invariant.values q) (c.in_ok-insert.ensures.updates.0 q);
    }
