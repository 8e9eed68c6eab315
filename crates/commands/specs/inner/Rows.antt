-- The rows for the TDI, TDO and MASK bits of a scan: how much room they have, and which scan they hold.
use Rattle.std.specs.Prelude.{ℕ}
use Rattle.board_defs.specs.declared.board.RawBoard.{RawBoard}
use Rattle.tap_defs.specs.declared.scan.Shape.{Shape}
use Rattle.tap_defs.specs.declared.scan.StoredRows.{StoredRows}
use Rattle.plan_tables.specs.declared.tables.PlanTables.{PlanTables}
use Rattle.scan_planner.specs.Plans.{FillsScan}

-- `Fits` holds for the room of each of the three rows; the room of a row is the number of bits for which it has memory
pub record EachStoredHasRoom (Fits : ℕ → Type 0) (rows : StoredRows) : Type 0 where
  pub tdi : Fits rows.tdi.room
  pub tdo : Fits rows.tdo.room
  pub mask : Fits rows.mask.room

-- the rows hold scan `k` of a plan's test, and `shape` is the scan's shape: whether it is an instruction
-- scan, and whether it compares a bit
abbrev pub HoldScan : RawBoard → PlanTables → ℕ → Shape → StoredRows → Type 0
HoldScan board plan k shape rows = FillsScan board plan.passes plan.width k shape rows.tdi.bits rows.tdo.bits rows.mask.bits
