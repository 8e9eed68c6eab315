use Rattle.net_classes.proofs.ClosedLemmas.{no_closed_nets}
use Rattle.net_classes.proofs.closed_nets.ClosedNets.nothing.Goals as goal

pub returns : goal.returns
returns c =
    let board = c.args.known.now.board in
    no_closed_nets board _ c.none.ensures c.none-2.ensures
    (c.in_ok-new.ensures board c.cells.ensures) (c.in_ok-new-2.ensures board c.cells-2.ensures)
