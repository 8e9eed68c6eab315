use Rattle.walk_test.proofs.MemberLemmas.{groups_are, all_rise}
use Rattle.walk_test.proofs.SetLemmas.{ok_then}
use Rattle.walk_test.proofs.grouping.groups_by.Goals as goal

pub groups_among-requires : goal.groups_among-requires
groups_among-requires c =
    all_rise c.args.nets.now c.args.labels.now c.in_ok-all_members.field-0.items c.requires.rise
    c.in_ok-all_members.ensures

pub returns : goal.returns
returns c =
    ok_then c.groups_among.result c.groups_among.ensures
    (λ groups is. groups_are c.args.nets.now c.args.labels.now c.in_ok-all_members.field-0.items
    groups.items c.in_ok-all_members.ensures is)
