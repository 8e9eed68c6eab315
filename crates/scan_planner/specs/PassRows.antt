-- The rows of a pass, stored side by side, and the rows that all passes share.
use Rattle.std.specs.Prelude.{◌≡◌, ℕ, suc, ◌<◌, ◌≤◌, Bool, true, false, List, Some, length, replicate, slice_get, IfSome}
use Rattle.bt_bits.specs.Rows.{BitRow}
use Rattle.bt_bits.specs.Stacks.{Stack, stacked}
use Rattle.board_defs.specs.declared.board.RawBoard.{RawBoard}
use Rattle.board_defs.specs.Pins.{data_bits}
use Rattle.tap_defs.specs.chain.Scan.{joined, mask_bits, tdi_bits, tdo_bits}
use Rattle.tap_defs.specs.board.BoardScans.{row_bits}
use Rattle.plan_tables.specs.declared.tables.PlanTables.{PlanTables}
use Rattle.plan_tables.specs.declared.tables.DriverCell.{DriverCell}
use Rattle.plan_tables.specs.Assigned.{assigned, code_bit_of_driver, set_compared}
use Rattle.scan_planner.specs.declared.common_rows.CommonRows.{CommonRows}
use Rattle.scan_planner.specs.declared.pass_rows.PassRows.{PassRows}
use Rattle.scan_planner.specs.declared.pass_rows.StackedRows.{StackedRows}
use Rattle.scan_planner.specs.Plans.{scan_of_pass}

-- the rows have room for `bits` bits each
pub record HaveRoomOf (bits : ℕ) (rows : StackedRows) : Type 0 where
  pub shifted : bits ≤ rows.shifted.room
  pub expected : bits ≤ rows.expected.room
  pub mask : bits ≤ rows.mask.room

-- the rows have room for the bits of `others`
pub record HaveRoomForStack (others rows : StackedRows) : Type 0 where
  pub shifted : length (stacked others.shifted 0) ≤ rows.shifted.room
  pub expected : length (stacked others.expected 0) ≤ rows.expected.room
  pub mask : length others.mask.bits ≤ rows.mask.room

-- the new rows have the same room as the old rows
pub record KeepRoom (old new : StackedRows) : Type 0 where
  pub shifted : new.shifted.room ≡ old.shifted.room
  pub expected : new.expected.room ≡ old.expected.room
  pub mask : new.mask.room ≡ old.mask.room

-- Row `j` of the bits that all passes shift in. It is the quiet row, except that the cell of each steady
-- driver has bit `j` of the code of the driver's net. The quiet row disables every driver that has a control.
-- Every pass observes the net of a steady driver by this driver.
abbrev pub steady_shifted : PlanTables → ℕ → List Bool
steady_shifted plan j = assigned (λ d. d.position) (code_bit_of_driver plan.codes j) plan.quiet.bits plan.steady

-- A row for the compared cells that all passes share. These are the compared cells of the steady drivers' nets, except the cells on the
-- drivers' own pins. Each of these cells has the bit that `bit` gives the driver of its net. Every other bit is 0.
abbrev pub steady_compared : PlanTables → (DriverCell → Bool) → List Bool
steady_compared plan bit = set_compared bit plan.nets.readers (replicate (length plan.quiet.bits) false) plan.steady

-- `rows` has 16 rows, stored side by side, from which the rows of every pass of the plan are made. Each row has the bits that are shifted
-- in and the expected bits, before the cells of a pass's own controls and drivers are set. All rows have the same mask.
pub record AreCommonStacks (plan : PlanTables) (rows : StackedRows) : Type 0 where
  pub shifted : (j : ℕ) → j < 16 → stacked rows.shifted j ≡ steady_shifted plan j
  pub expected : (j : ℕ) → j < 16 → stacked rows.expected j ≡ steady_compared plan (code_bit_of_driver plan.codes j)
  pub mask : rows.mask.bits ≡ steady_compared plan (λ d. true)

-- row `j` of the list is row `j` of the stack, which stores rows side by side
abbrev pub AreFirstRows : Stack → List BitRow → Type 0
AreFirstRows stack rows = (j : ℕ) (row : BitRow) → slice_get rows j ≡ Some row → row.bits ≡ stacked stack j

-- The rows are the rows that all passes of the plan share. `expected` has one row for each bit of the codes. Row `j` of `expected` has the
-- expected bits that all passes share in their row `j`.
pub record AreCommonRows (plan : PlanTables) (rows : CommonRows) : Type 0 where
  pub stacked : AreCommonStacks plan rows.stacked
  pub count : length rows.expected ≡ plan.width
  pub expected : (j : ℕ) (row : BitRow) → slice_get rows.expected j ≡ Some row
      → row.bits ≡ steady_compared plan (code_bit_of_driver plan.codes j)

-- The rows are the rows of pass `x` of the plan. Each row `j` of the pass has the bits that scan `j` shifts in, and the expected bits and
-- the mask of scan `j + 1`.
pub record ArePassRows (board : RawBoard) (plan : PlanTables) (x : ℕ) (rows : StackedRows) : Type 0 where
  pub within : x < length plan.passes
  pub shifted : (j : ℕ) → j < plan.width → stacked rows.shifted j ≡ tdi_bits (joined (row_bits board (scan_of_pass board plan x j)))
  pub expected : (j : ℕ) → j < plan.width → stacked rows.expected j ≡ tdo_bits (joined (row_bits board (scan_of_pass board plan x (suc j))))
  pub mask : (j : ℕ) → j < plan.width → rows.mask.bits ≡ mask_bits (joined (row_bits board (scan_of_pass board plan x (suc j))))

-- `kept` has room for a data scan. If its rows belong to a pass, they are the rows of that pass of this plan.
pub record AreKept (board : RawBoard) (plan : PlanTables) (kept : PassRows) : Type 0 where
  pub room : HaveRoomOf (data_bits board) kept.rows
  pub rows : IfSome kept.pass (λ x. ArePassRows board plan x kept.rows)
