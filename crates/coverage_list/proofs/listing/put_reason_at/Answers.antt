use Rattle.line_printer.proofs.PrintLemmas.{prints_same}
use Rattle.coverage_list.proofs.NetLemmas.{reason_is}
use Rattle.coverage_list.proofs.listing.put_reason_at.Goals as goal

pub returns : goal.returns
returns g c =
    let net = c.net_at-net.result.now in
    prints_same
    (reason_is c.args.board.now c.args.n net c.reason.result c.net_at-net.ensures
    (c.reason.ensures net c.net_at-net.ensures)) c.put_reason.ensures
