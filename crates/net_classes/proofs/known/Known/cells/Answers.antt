use Rattle.std.proofs.Common.{subst, ◌∙◌, sym, ap}
use Rattle.std.specs.Prelude.{is_some}
use Rattle.board_defs.specs.Pins.{IsCell}
use Rattle.net_facts.specs.Cells.{item_of_cell, table}
use Rattle.net_classes.proofs.known.Known.cells.Goals as goal

pub returns : goal.returns
returns c d cell =
    ap (λ rows. is_some (item_of_cell (table rows) d)) c.deref.ensures.value
    ∙ ap is_some
    (c.self.invariant.0.shared_are d (subst (λ k. IsCell k.board d) (sym c.self.view_is) cell))
