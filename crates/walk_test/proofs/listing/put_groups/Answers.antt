use Rattle.std.proofs.Common.{rules}
use Rattle.walk_test.specs.GroupText.{group_text}
use Rattle.line_printer.proofs.PutLemmas.{next_ok, next_err, all_put}
use Rattle.walk_test.proofs.listing.put_groups.Goals as goal

pub returns-in_err-put_group : goal.returns-in_err-put_group
returns-in_err-put_group g c =
    next_err (group_text c.args.board.now) c.args.groups.now c.loop-group.group-index _
    (search rules) c.loop-group-test.true c.loop-group.invariant c.put_group.ensures
    c.in_err-put_group.was c.from_residual.ensures.0

pub loop-group-preserved : goal.loop-group-preserved
loop-group-preserved g c =
    next_ok (group_text c.args.board.now) c.args.groups.now c.loop-group.group-index _
    (search rules) c.loop-group-test.true c.loop-group.invariant c.put_group.ensures
    c.in_ok-put_group.was

pub returns : goal.returns
returns g c =
    all_put (group_text c.args.board.now) c.args.groups.now c.loop-group.group-index
    c.loop-group-test.false c.loop-group.invariant
