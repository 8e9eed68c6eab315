use Rattle.std.proofs.Common.{Bool, ◌||◌, List, sym, ap, ◌∙◌}
use Rattle.std.specs.List.{list_any}
use Rattle.board_defs.specs.declared.board.NetPin.{NetPin}
use Rattle.board_defs.specs.Pins.{guards}
use Rattle.port_entries.specs.inner.Rows.{guards_in}
use Rattle.port_entries.proofs.EntryLemmas.{any_guards}
use Rattle.port_entries.proofs.pins.is_guarded.Goals as goal

pub returns-else-net : goal.returns-else-net
returns-else-net c =
    let board = c.args.board.now in
    let pins = c.args.net.now.pins in
    c.any_guards.ensures
    ∙ ap (λ (p : List NetPin). list_any (guards_in c.args.rows.now board) p) c.as_slice.ensures
    ∙ any_guards board c.args.rows.now c.requires pins
    ∙ ap (λ (b : Bool). b || list_any (guards board) pins) (sym c.if-net.false)
