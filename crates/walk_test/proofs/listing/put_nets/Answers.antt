use Rattle.std.proofs.Common.{rules}
use Rattle.walk_test.specs.GroupText.{net_line}
use Rattle.line_printer.proofs.PutLemmas.{next_ok, next_err, all_put}
use Rattle.walk_test.proofs.listing.put_nets.Goals as goal

pub returns-in_err-put_numbered : goal.returns-in_err-put_numbered
returns-in_err-put_numbered g c =
    next_err (net_line c.args.board.now) c.args.nets.now c.loop-n.n-index _ (search rules)
    c.loop-n-test.true c.loop-n.invariant c.put_numbered.ensures c.in_err-put_numbered.was
    c.from_residual.ensures.0

pub loop-n-preserved : goal.loop-n-preserved
loop-n-preserved g c =
    next_ok (net_line c.args.board.now) c.args.nets.now c.loop-n.n-index _ (search rules)
    c.loop-n-test.true c.loop-n.invariant c.put_numbered.ensures c.in_ok-put_numbered.was

pub returns : goal.returns
returns g c = all_put (net_line c.args.board.now) c.args.nets.now c.loop-n.n-index c.loop-n-test.false c.loop-n.invariant
