use Rattle.std.proofs.Common.{sym, ap, ◌∙◌}
use Rattle.board_defs.specs.Pins.{receives_where}
use Rattle.port_entries.proofs.EntryLemmas.{receives_is}
use Rattle.port_entries.proofs.pins.receives.Goals as goal

pub returns-in-Some : goal.returns-in-Some
returns-in-Some c =
    c.receives_there.ensures ∙ receives_is c.args.board.now c.args.rows.now c.requires c.in-Some.at
    ∙ sym (ap (receives_where c.args.board.now) c.in-Some.is)
