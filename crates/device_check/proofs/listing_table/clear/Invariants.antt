use Rattle.std.proofs.Common.{◌≡◌, ℕ, ◌<◌, length}
use Rattle.std.specs.Prelude.{slice_index_or}
use Rattle.device_check.specs.declared.listing_table.Entries.TheVariants.{Nothing}
use Rattle.device_check.proofs.listing_table.clear.Given as goal

-- the table keeps its length, and its places below `at` are empty
abbrev pub invariant-loop-at : goal.invariant-loop-at
invariant-loop-at l = record {
  places : length l.table ≡ length l.fn.table;
  nothing : (k : ℕ) → k < l.at → slice_index_or l.table k Nothing ≡ Nothing;
}
