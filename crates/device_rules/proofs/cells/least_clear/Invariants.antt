use Rattle.std.proofs.Common.{◌≡◌, ◌-◌}
use Rattle.std.specs.Prelude.{not, false, slice_index_or}
use Rattle.first_places.specs.Items.{least_from, least_below}
use Rattle.device_rules.proofs.cells.least_clear.Given as goal

abbrev pub invariant-loop-cell : goal.invariant-loop-cell
invariant-loop-cell l =
    least_from (λ cell. not (slice_index_or l.flags cell false)) l.cell (l.boundary - l.cell)
    ≡ least_below (λ cell. not (slice_index_or l.flags cell false)) l.boundary
