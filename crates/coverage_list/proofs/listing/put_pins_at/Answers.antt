use Rattle.std.proofs.Common.{sym, ◌∙◌}
use Rattle.line_printer.proofs.PrintLemmas.{prints_same}
use Rattle.coverage_list.proofs.NetLemmas.{pins_is}
use Rattle.coverage_list.proofs.listing.put_pins_at.Goals as goal

pub returns-then-is_covered : goal.returns-then-is_covered
returns-then-is_covered g c =
    let net = c.net_at.result.now in
    prints_same
    (pins_is c.args.board.now c.args.pin_use c.args.n net c.net_at.ensures
    (sym (c.is_covered.ensures net c.net_at.ensures) ∙ c.if-is_covered.true))
    c.put_net_pins.ensures
