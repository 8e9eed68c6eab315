use Rattle.std.proofs.Common.{List, ap, ◌∙◌}
use Rattle.board_defs.specs.declared.device.Cell.{Cell}
use Rattle.board_defs.specs.Pins.{device_at}
use Rattle.port_entries.specs.Entries.{entries_at, entries_of}
use Rattle.net_pins.proofs.board_pins.BoardPins.entries.Goals as goal

pub returns : goal.returns
returns c =
    let at = c.args.at in
    c.entries_at.ensures
    ∙ ap (λ (rows : List (List (List Cell))). entries_at rows at) c.as_slice.ensures
    ∙ c.self.invariant.entries at
    ∙ ap (λ b. entries_of (device_at b at.part) at.bit) c.self.view_is
