use Rattle.std.proofs.Common.{◌≡◌, ◌≤◌, ◌++◌, map, take, drop, vec_len}
use Rattle.std.specs.List.{list_any}
use Rattle.indexmap.specs.IndexSet.{contains}
use Rattle.first_places.specs.Places.{place_or_zero, once, once_from}
use Rattle.first_places.proofs.numbered.Given as goal

-- The set has exactly the keys visited so far, and `numbers` has their numbers. `kept` has the keys of the set, in its
-- order, and at most as many as the loop has visited. The different keys of the list are the keys in `kept`, followed
-- by the keys that the loop will visit and that equal no earlier key.
abbrev pub invariant-loop-key : goal.invariant-loop-key
invariant-loop-key g l = record {
  same : l.seen.keys ≡ l.kept.items;
  seen : (q : g.row.K.Denot) → contains g.K.PartialEq.eq l.seen q ≡ list_any (λ s. g.K.PartialEq.eq s q) (take l.key-index l.keys);
  kept : once g.K.PartialEq.eq l.keys ≡ l.kept.items ++ once_from g.K.PartialEq.eq (take l.key-index l.keys) (drop l.key-index l.keys);
  few : vec_len l.kept ≤ l.key-index;
  numbers : l.numbers.items ≡ map (place_or_zero g.K.PartialEq.eq (once g.K.PartialEq.eq l.keys)) (take l.key-index l.keys);
}
