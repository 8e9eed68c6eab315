use Rattle.std.proofs.Common.{◌≡◌, ◌-◌}
use Rattle.std.specs.Prelude.{◌||◌, nat_lt, slice_index}
use Rattle.first_places.specs.Items.{least_from, least_below}
use Rattle.device_rules.proofs.cells.least_several.Given as goal

abbrev pub invariant-loop-cell : goal.invariant-loop-cell
invariant-loop-cell l =
    least_from
    (λ cell. nat_lt 1 (slice_index l.loaders cell) || nat_lt 1 (slice_index l.writers cell))
    l.cell (l.boundary - l.cell)
    ≡ least_below
    (λ cell. nat_lt 1 (slice_index l.loaders cell) || nat_lt 1 (slice_index l.writers cell))
    l.boundary
