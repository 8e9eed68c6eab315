use Rattle.std.proofs.Common.{◌≡◌, ◌++◌, take, drop}
use Rattle.std.specs.List.{list_any}
use Rattle.indexmap.specs.IndexSet.{contains}
use Rattle.first_places.specs.Places.{once, once_from}
use Rattle.first_places.proofs.once_by.Given as goal

-- The set has exactly the keys of the items visited so far. The result is the items in `kept`,
-- followed by the items that the loop will visit and whose keys no earlier item has.
abbrev pub invariant-loop-item : goal.invariant-loop-item
invariant-loop-item g l = record {
  seen : (q : g.row.K.Denot) → contains g.K.PartialEq.eq l.seen q ≡ list_any (λ s. g.K.PartialEq.eq s.0 q) (take l.item-index l.items);
  kept : once (λ a b. g.K.PartialEq.eq a.0 b.0) l.items
      ≡ l.kept.items
      ++ once_from (λ a b. g.K.PartialEq.eq a.0 b.0) (take l.item-index l.items)
      (drop l.item-index l.items);
}
