use Rattle.std.proofs.Common.{◌∙◌, ap}
use Rattle.std.specs.Prelude.{is_some}
use Rattle.net_facts.specs.Cells.{item_of_cell, table}
use Rattle.net_classes.proofs.ControlSetLemmas.{filled_item}
use Rattle.net_classes.proofs.pair_rows.first_numbers.Goals as goal

pub returns : goal.returns
returns c d cell =
    ap (λ rows. is_some (item_of_cell rows d)) c.in_ok-numbers.ensures
    ∙ ap is_some (filled_item 0 (table c.cells.result.now) d (c.cells.ensures d cell))
