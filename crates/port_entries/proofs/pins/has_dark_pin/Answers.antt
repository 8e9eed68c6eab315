use Rattle.std.proofs.Common.{◌∙◌}
use Rattle.port_entries.proofs.EntryLemmas.{any_dark}
use Rattle.port_entries.proofs.pins.has_dark_pin.Goals as goal

pub returns : goal.returns
returns c = c.any_dark.ensures ∙ any_dark c.args.board.now c.args.rows.now c.requires c.args.pins.now
