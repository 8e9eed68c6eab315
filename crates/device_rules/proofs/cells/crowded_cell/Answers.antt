-- The tables count, for each cell, the entries for the capture stage and the entries for the update
-- latch.
use Rattle.std.proofs.Common.{◌||◌, ap, count_by, ◌∙◌}
use Rattle.std.specs.Prelude.{nat_lt, slice_index}
use Rattle.device_rules.specs.Cells.{loads_cell, is_crowded, v12}
use Rattle.device_rules.proofs.LeastLemmas.{least_same}
use Rattle.device_rules.proofs.cells.crowded_cell.Goals as goal

pub returns : goal.returns
unfolding v12
returns c =
    let entries = c.args.entries.now in
    let loaders = c.deref.result.now in
    let writers = c.deref-2.result.now in
    c.least_several.ensures
    ∙ least_same
    (λ cell. nat_lt 1 (slice_index loaders cell) || nat_lt 1 (slice_index writers cell))
    (is_crowded entries) c.args.boundary
    (λ n less.
    ap (λ k. nat_lt 1 k || nat_lt 1 (slice_index writers n))
    (ap (λ t. slice_index t n) c.deref.ensures.value ∙ c.in_ok-loaders.ensures.each n less)
    ∙ ap (λ k. nat_lt 1 (count_by (loads_cell n) entries) || nat_lt 1 k)
    (ap (λ t. slice_index t n) c.deref-2.ensures.value ∙ c.in_ok-writers.ensures.each n less))
