use Rattle.std.proofs.Common.{◌≡◌, ◌≤◌, length, drop}
use Rattle.indexmap.specs.IndexMap.{get}
use Rattle.first_places.specs.Places.{first_value}
use Rattle.first_places.proofs.first_values.Given as goal

-- for each key, the map has the value of the first item with this key among the items from `i` on
abbrev pub invariant-loop-i : goal.invariant-loop-i
invariant-loop-i g l = record {
  within : l.i ≤ length l.items;
  values : (q : g.row.K.Denot) → get g.K.PartialEq.eq l.values q ≡ first_value g.K.PartialEq.eq (drop l.i l.items) q;
}

abbrev pub decreases-loop-i : goal.decreases-loop-i
decreases-loop-i g l = l.i
