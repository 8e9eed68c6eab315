use Rattle.std.proofs.Common.{◌≡◌, ℕ, ◌+◌, ◌<◌, length, take}
use Rattle.std.specs.Prelude.{slice_index_or}
use Rattle.device_check.specs.DeviceText.{entries_of_cell}
use Rattle.device_check.specs.inner.ListingForms.{entries_in}
use Rattle.device_check.specs.declared.listing_table.Entries.TheVariants.{Nothing}
use Rattle.device_check.proofs.listing_table.fill_entries.Given as goal

-- the table keeps its length, and its place `k` has the entries visited so far that belong to cell `from + k`
abbrev pub invariant-loop-cell : goal.invariant-loop-cell
invariant-loop-cell l = record {
  places : length l.table ≡ length l.fn.table;
  each : (k : ℕ) → k < length l.table
      → entries_in (slice_index_or l.table k Nothing)
      ≡ entries_of_cell (l.from + k) (take l.cell-index l.cells);
}
