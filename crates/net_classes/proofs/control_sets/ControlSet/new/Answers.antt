use Rattle.std.proofs.Common.{false, ◌∙◌, ap}
use Rattle.net_facts.specs.Cells.{item_of_cell, table}
use Rattle.net_classes.proofs.ControlSetLemmas.{empty_set, filled_item}
use Rattle.net_classes.proofs.control_sets.ControlSet.new.Goals as goal

pub returns : goal.returns
returns g c board cells =
    empty_set board _
    (λ d cell. ap (λ rows. item_of_cell rows d) c.in_ok-filled_table.ensures
    ∙ filled_item false (table c.args.rows.now) d (cells d cell))
