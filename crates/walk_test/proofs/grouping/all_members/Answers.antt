use Rattle.std.proofs.Common.{List, ℕ, length, get_or, ◌∙◌, arith}
use Rattle.std.proofs.lemmas.List.{with_items_is}
use Rattle.std.proofs.lemmas.Option.{slice_get-get_or}
use Rattle.walk_test.proofs.MemberLemmas.{all_members_more, no_members}
use Rattle.walk_test.proofs.grouping.all_members.Goals as goal

pub loop-i-init : goal.loop-i-init
loop-i-init c = c.in_ok-lists.ensures ∙ no_members 0 (length c.args.labels.now)

pub loop-i-preserved : goal.loop-i-preserved
loop-i-preserved c =
    let nets = c.args.nets.now in
    let labels = c.args.labels.now in
    let i = c.loop-i.i in
    let before = c.loop-i.lists in
    let after : List (List ℕ) = c.note.new.rows in
    with_items_is before after (c.note.auto.rows ∙ c.deref_mut.ensures.len)
    ∙ all_members_more nets labels (length labels) i (get_or nets i 0) (get_or labels i 0) c.deref_mut.result.now after
    (slice_get-get_or nets i 0 c.loop-i-test.true) (slice_get-get_or labels i 0 (omega (arith, c.loop-i-test.true, c.requires)))
    (c.deref_mut.ensures.value ∙ c.loop-i.invariant) c.in_ok-note.ensures
