-- Each step of the loop appends one more net.
use Rattle.std.proofs.Common.{◌∙◌, map, ap}
use Rattle.std.specs.Prelude.{is_some, slice_get}
use Rattle.std.specs.Vec.Iter.{into_iter_items}
use Rattle.indexmap.specs.IndexMap.{get_by}
use Rattle.board_files.specs.Names.{same_word}
use Rattle.board_build.specs.inner.Marked.{net_by, nets_after}
use Rattle.board_build.proofs.GroupLemmas.{zip_step}
use Rattle.board_build.proofs.nets.nets_by.Goals as goal

pub loop-i-preserved : goal.loop-i-preserved
loop-i-preserved c =
    let f = net_by (λ q. is_some (get_by (λ n. same_word q.now n.now) c.args.supplies.now))
    (λ q. get_by (λ n. same_word q.now n.now) c.args.pulls.now) in
    zip_step f c.args.names.now c.loop-i.i (map (λ g. g.items) (into_iter_items c.loop-i.groups)) _
    c.loop-i.nets.items _ _ c.loop-i-test.true c.next_group-group.ensures.rest
    (c.in_ok-push_at.ensures
    ∙ ap (λ o. nets_after f (slice_get c.args.names.now c.loop-i.i) o c.loop-i.nets.items)
    c.next_group-group.ensures.head)
    c.loop-i.invariant
