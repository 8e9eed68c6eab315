use Rattle.std.proofs.Common.{List, ap, ◌∙◌}
use Rattle.std.specs.Prelude.{find}
use Rattle.board_defs.specs.declared.device.Cell.{Cell}
use Rattle.board_defs.specs.DeviceRules.{is_driving}
use Rattle.port_entries.proofs.EntryLemmas.{driving_is}
use Rattle.port_entries.proofs.pins.driving_entry.Goals as goal

pub returns : goal.returns
returns c =
    c.find_driving.ensures
    ∙ ap (λ (l : List Cell). find (λ cell. is_driving cell.role) l) c.entries_at.ensures
    ∙ driving_is c.args.board.now c.args.rows.now c.requires c.args.at
