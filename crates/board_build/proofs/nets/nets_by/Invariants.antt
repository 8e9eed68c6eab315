use Rattle.std.proofs.Common.{◌≡◌, ◌++◌, map, drop}
use Rattle.std.specs.Prelude.{is_some, zip}
use Rattle.std.specs.Vec.Iter.{into_iter_items}
use Rattle.indexmap.specs.IndexMap.{get_by}
use Rattle.board_files.specs.Names.{same_word}
use Rattle.board_build.specs.inner.Marked.{net_by}
use Rattle.board_build.proofs.nets.nets_by.Given as goal

-- The nets made so far, followed by the nets of the remaining names and groups, are the nets of all
-- names and groups.
abbrev pub invariant-loop-i : goal.invariant-loop-i
invariant-loop-i l =
    map
    (net_by (λ q. is_some (get_by (λ n. same_word q.now n.now) l.supplies))
    (λ q. get_by (λ n. same_word q.now n.now) l.pulls))
    (zip l.names (map (λ g. g.items) l.fn.groups.items))
    ≡ l.nets.items
    ++ map
    (net_by (λ q. is_some (get_by (λ n. same_word q.now n.now) l.supplies))
    (λ q. get_by (λ n. same_word q.now n.now) l.pulls))
    (zip (drop l.i l.names) (map (λ g. g.items) (into_iter_items l.groups)))
