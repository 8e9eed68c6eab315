use Rattle.std.proofs.Common.{◌≡◌, take, drop}
use Rattle.std.specs.List.{list_any}
use Rattle.indexmap.specs.IndexSet.{contains}
use Rattle.first_places.specs.Places.{first_repeated, repeated_from}
use Rattle.first_places.proofs.first_repeated.Given as goal

-- the set has exactly the keys of the items visited so far, and no two of these items have the same
-- key
abbrev pub invariant-loop-item : goal.invariant-loop-item
invariant-loop-item g l = record {
  seen : (q : g.row.K.Denot) → contains g.K.PartialEq.eq l.seen q ≡ list_any (λ s. g.K.PartialEq.eq s.0 q) (take l.item-index l.items);
  none : first_repeated (λ a b. g.K.PartialEq.eq a.0 b.0) l.items
      ≡ repeated_from (λ a b. g.K.PartialEq.eq a.0 b.0) (take l.item-index l.items)
      (drop l.item-index l.items);
}
