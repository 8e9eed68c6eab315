-- For each disable value, a table has a flag for each cell, set if the cell controls an entry with
-- this disable value.
use Rattle.std.proofs.Common.{◌&&◌, true, false, ap, ◌∙◌}
use Rattle.std.specs.Prelude.{slice_index_or}
use Rattle.std.specs.List.{list_any}
use Rattle.device_rules.specs.Cells.{controls_entry, has_two_values, v11}
use Rattle.device_rules.proofs.LeastLemmas.{least_same}
use Rattle.device_rules.proofs.cells.two_valued_control.Goals as goal

pub returns : goal.returns
unfolding v11
returns c =
    let entries = c.args.entries.now in
    let on = c.deref.result.now in
    let off = c.deref-2.result.now in
    c.least_with_both.ensures
    ∙ least_same (λ cell. slice_index_or on cell false && slice_index_or off cell false)
    (has_two_values entries) c.args.boundary
    (λ n less.
    ap (λ b. b && slice_index_or off n false) (ap (λ t. slice_index_or t n false) c.deref.ensures.value ∙ c.in_ok-on.ensures.each n less)
    ∙ ap (λ b. list_any (controls_entry true n) entries && b)
    (ap (λ t. slice_index_or t n false) c.deref-2.ensures.value ∙ c.in_ok-off.ensures.each n
    less))
