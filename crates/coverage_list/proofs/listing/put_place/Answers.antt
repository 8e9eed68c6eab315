use Rattle.std.proofs.Common.{sym, ◌∙◌}
use Rattle.line_printer.proofs.PrintLemmas.{prints_same}
use Rattle.coverage_list.proofs.NetLemmas.{place_is}
use Rattle.coverage_list.proofs.listing.put_place.Goals as goal

pub returns-then-is_untested : goal.returns-then-is_untested
returns-then-is_untested g c =
    prints_same (place_is c.args.board.now c.args.pin_use c.args.net.now c.args.pin.place c.pin_at.result.now c.pin_at.ensures
    (sym (c.is_untested.ensures c.args.net.now c.requires.net) ∙ c.if-is_untested.true)) c.put_pin.ensures
