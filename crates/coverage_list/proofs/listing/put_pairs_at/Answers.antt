use Rattle.lists.proofs.ListLemmas.{item_there}
use Rattle.line_printer.proofs.PrintLemmas.{prints_same}
use Rattle.coverage_list.proofs.NetLemmas.{pairs_is}
use Rattle.coverage_list.proofs.listing.put_pairs_at.Goals as goal

pub returns-then-may_be_unpaired : goal.returns-then-may_be_unpaired
returns-then-may_be_unpaired g c =
    let board = c.args.board.now in
    let net = item_there board.nets c.args.low c.requires in
    prints_same
    (pairs_is board c.args.low net.0 net.1
    (c.may_be_unpaired.ensures.covered c.if-may_be_unpaired.true net.0 net.1))
    (c.put_later.ensures net.0 net.1)
