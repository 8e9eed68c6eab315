-- The scans of a plan's test, and rows that hold one of them.
use Rattle.std.specs.Prelude.{◌≡◌, ℕ, suc, ◌+◌, ◌*◌, ◌<◌, ◌≤◌, Bool, true, false, List, [], length, Some, slice_get, slice_index_or}
use Rattle.std.specs.List.{list_any}
use Rattle.board_defs.specs.Limits.{most_bits}
use Rattle.board_defs.specs.declared.board.RawBoard.{RawBoard}
use Rattle.board_defs.specs.declared.board.Ctl.{Ctl}
use Rattle.board_defs.specs.Pins.{instruction_bits, data_bits}
use Rattle.tap_defs.specs.declared.scan.Shape.{Shape}
use Rattle.tap_defs.specs.chain.Scan.{scan_bits}
use Rattle.tap_defs.specs.board.TestRows.{TestRow, code_row}
use Rattle.tap_defs.specs.board.BoardScans.{RowScan, row_now, row_before, test_scans}
use Rattle.plan_tables.specs.declared.tables.PlanTables.{PlanTables}
-- `ArePlannable`: a plan can be made from the passes. `IsPlanOf`: the tables are a plan of the board.
pub use Rattle.plan_tables.specs.Plans.{ArePlannable, IsPlanOf}

-- The number of scans: three at the beginning, and `width + 1` for each pass. A pass has one scan for each of its `width` rows. Its last
-- scan shifts in the quiet row, which disables every driver that has a control.
abbrev pub scan_count : PlanTables → ℕ
scan_count plan = 3 + length plan.passes * suc plan.width

-- there is room for an instruction scan and for a data scan
pub record IsRoom (board : RawBoard) (room : ℕ) : Type 0 where
  pub instructions : instruction_bits board ≤ room
  pub data_row : data_bits board ≤ room

-- The rows hold scan `k` of the test. `shape` says whether it is an instruction scan, and whether it compares a bit, that is, whether some
-- bit of the mask is 1. All three rows have the same length, from 1 to the limit on the bits of a scan. Bit `i` of TDO is 1 only if bit `i`
-- of the mask is 1.
pub record FillsScan (board : RawBoard) (passes : List (List Ctl)) (width k : ℕ) (shape : Shape) (tdi tdo mask : List Bool) : Type 0 where
  pub scan : slice_get (test_scans board passes width) k ≡ Some (record { ir = shape.ir; bits = scan_bits tdi tdo mask })
  pub some : 0 < length tdi
  pub most : length tdi ≤ most_bits
  pub tdo_length : length tdo ≡ length tdi
  pub mask_length : length mask ≡ length tdi
  pub compare : shape.compare ≡ list_any (λ bit. bit) mask
  pub masked : (i : ℕ) → slice_index_or tdo i false ≡ true → slice_index_or mask i false ≡ true

-- scan `j` of pass `x`: the row that the scan shifts in, and the row before it, which the scan compares
abbrev pub scan_of_pass : RawBoard → PlanTables → ℕ → ℕ → RowScan
scan_of_pass board plan x j =
    let rows : ℕ → TestRow = code_row board plan.passes (slice_index_or plan.passes x []) in
    record { now = row_now rows plan.width j; before = row_before rows j }
