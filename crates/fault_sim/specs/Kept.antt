-- Conditions on the kept passes of a test and on a log of the test. A kept pass stores rows and drivers of a
-- pass, so that many logs can share them. No pass observes a guarded net, for example a net that carries a
-- supply.
use Rattle.std.specs.Prelude.{◌≡◌, ℕ, suc, ◌*◌, Bool, List, [], length, Option, Some, option_map, slice_get, slice_index_or}
use Rattle.board_defs.specs.declared.board.Ctl.{Ctl}
use Rattle.board_defs.specs.declared.board.RawBoard.{RawBoard}
use Rattle.board_defs.specs.Passes.{passes_of}
use Rattle.board_defs.specs.Pins.{data_bits}
use Rattle.tap_defs.specs.chain.Scan.{joined, tdo_bits, mask_bits}
use Rattle.tap_defs.specs.board.BoardScans.{row_bits}
use Rattle.net_pins.specs.declared.nets.NetDriver.{NetDriver}
use Rattle.plan_tables.specs.declared.tables.PlanTables.{PlanTables}
use Rattle.scan_planner.specs.Plans.{scan_of_pass}
use Rattle.response_log.specs.LogRows.{HasSize}
use Rattle.fault_sim.specs.declared.feed.EnabledDriver.{EnabledDriver}
use Rattle.fault_sim.specs.declared.kept.ComparedRow.{ComparedRow}
use Rattle.fault_sim.specs.declared.kept.KeptPass.{KeptPass}
use Rattle.fault_sim.specs.Effects.{driver_in, source_in, is_own}
use Rattle.fault_sim.specs.Planned.{PlanPass, PlannedBoard, PlannedPass, controls_of, plan_pass}

-- the bits that the test expects in row j of pass x, that is, the TDO bits of the scan that compares this row
abbrev pub expected_in : RawBoard → PlanTables → ℕ → ℕ → List Bool
expected_in board plan x j = tdo_bits (joined (row_bits board (scan_of_pass board plan x (suc j))))

-- the flags of the bits that the test compares in row j of pass x, that is, the MASK bits of the scan that compares this row
abbrev pub compared_in : RawBoard → PlanTables → ℕ → ℕ → List Bool
compared_in board plan x j = mask_bits (joined (row_bits board (scan_of_pass board plan x (suc j))))

-- `row` has the expected bits of row j of pass x, and the flags of the bits that the test compares there
pub record IsComparedRow (board : RawBoard) (plan : PlanTables) (x j : ℕ) (row : ComparedRow) : Type 0 where
  pub tdo : row.tdo.bits ≡ expected_in board plan x j
  pub mask : row.mask.bits ≡ compared_in board plan x j

-- An enabled driver of net n: the place of the driver's pin (its index in the net's list of pins), the bits
-- of the driver's cell, and a flag that is true if this cell controls the driver.
abbrev pub enabled_by : PlanTables → List Ctl → ℕ → NetDriver → EnabledDriver
enabled_by plan pass n d = record { place = d.place; source = source_in plan pass n d; own = is_own d.own d.ctl }

-- the driver that a pass enables on net n, or `None` if it enables none or the net is guarded
abbrev pub enabled_driver : PlanTables → List Ctl → ℕ → Option EnabledDriver
enabled_driver plan pass n = option_map (enabled_by plan pass n) (driver_in plan pass n)

-- item j of `rows` has the expected bits of row j of pass x, and the flags of the bits that the test compares there
abbrev pub AreComparedRows : RawBoard → PlanTables → ℕ → List ComparedRow → Type 0
AreComparedRows board plan x rows = (j : ℕ) (row : ComparedRow) → slice_get rows j ≡ Some row → IsComparedRow board plan x j row

-- item n of `drivers` is the driver that the pass enables on net n, or `None` if it enables none or the net is guarded
abbrev pub AreDrivers : PlanTables → List Ctl → List (Option EnabledDriver) → Type 0
AreDrivers plan pass drivers =
    (n : ℕ) (driver : Option EnabledDriver) → slice_get drivers n ≡ Some driver
    → driver ≡ enabled_driver plan pass n

-- the rows of kept pass x are the first rows of the plan's pass x
abbrev pub KeepRows : RawBoard → PlanTables → List KeptPass → Type 0
KeepRows board plan kept = (x : ℕ) (pass : KeptPass) → slice_get kept x ≡ Some pass → AreComparedRows board plan x pass.rows

-- the drivers of kept pass x are the drivers that the plan's pass x enables on the first nets
abbrev pub KeepDrivers : PlanTables → List KeptPass → Type 0
KeepDrivers plan kept =
    (x : ℕ) (pass : KeptPass) → slice_get kept x ≡ Some pass
    → AreDrivers plan (slice_index_or plan.passes x []) pass.drivers

-- the plan has the board's passes, and the rows and drivers of each kept pass belong to the plan's pass with the same number
pub record HasKeptPasses (test : PlannedBoard) (kept : List KeptPass) : Type 0 where
  pub passes : test.plan.passes ≡ passes_of test.board
  pub rows : KeepRows test.board test.plan kept
  pub drivers : KeepDrivers test.plan kept

-- the plan has the board's passes, `drivers` has this plan and the controls that the pass holds, and `rows`
-- are the first rows of the pass
pub record IsTestPass (pass : PlannedPass) (drivers : PlanPass) (rows : List ComparedRow) : Type 0 where
  pub passes : pass.test.plan.passes ≡ passes_of pass.test.board
  pub drivers_are : drivers ≡ plan_pass pass.test.plan (controls_of pass)
  pub rows_are : AreComparedRows pass.test.board pass.test.plan pass.number rows

-- the log has `width` rows for each pass of the test, and each row is as long as a data scan
abbrev pub IsLogOfTest : PlannedBoard → List (List Bool) → Type 0
IsLogOfTest test log = HasSize (length test.plan.passes * test.plan.width) (data_bits test.board) log
