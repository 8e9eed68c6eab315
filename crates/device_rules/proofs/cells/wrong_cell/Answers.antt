-- The table has a flag for each cell, set if the cell has an entry.
use Rattle.std.proofs.Common.{sym, ap, ◌∙◌}
use Rattle.std.specs.Prelude.{not, false, slice_index_or}
use Rattle.first_places.specs.Items.{least_below, or_else}
use Rattle.device_rules.specs.Cells.{is_missing, v8}
use Rattle.device_rules.proofs.LeastLemmas.{least_same}
use Rattle.device_rules.proofs.cells.wrong_cell.Goals as goal

pub returns-in_ok-table-in-None : goal.returns-in_ok-table-in-None
unfolding v8
returns-in_ok-table-in-None c =
    let entries = c.args.entries.now in
    let boundary = c.args.boundary in
    c.least_clear.ensures
    ∙ least_same (λ cell. not (slice_index_or c.deref.result.now cell false)) (is_missing entries) boundary
    (λ n less. ap not (ap (λ t. slice_index_or t n false) c.deref.ensures.value ∙ c.in_ok-table-in-None.ensures.each n less))
    ∙ sym (ap (λ o. or_else o (least_below (is_missing entries) boundary)) (sym c.too_large_cell.ensures ∙ c.in-None.is))
