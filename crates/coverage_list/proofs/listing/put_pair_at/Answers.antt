use Rattle.std.proofs.Common.{sym, ◌∙◌}
use Rattle.line_printer.proofs.PrintLemmas.{prints_same}
use Rattle.coverage_list.proofs.NetLemmas.{same_item, pair_is}
use Rattle.coverage_list.proofs.listing.put_pair_at.Goals as goal

pub returns-then-is_unpaired : goal.returns-then-is_unpaired
returns-then-is_unpaired g c low at =
    let high = c.net_at-then-is_unpaired.result.now in
    prints_same (pair_is c.args.board.now low high c.net_at.result.now c.args.high c.net_at-then-is_unpaired.ensures
    (sym (c.is_unpaired.ensures low at high c.net_at-then-is_unpaired.ensures) ∙
    c.if-is_unpaired.true) (same_item c.net_at.ensures at)) c.put_pair.ensures
