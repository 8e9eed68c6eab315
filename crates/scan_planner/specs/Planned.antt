-- A board with a plan, and a pass of the plan. In contracts, `BoardPlan` and `PassOfPlan` have these values.
use Rattle.std.specs.Prelude.{ℕ, List}
use Rattle.board_defs.specs.declared.board.RawBoard.{RawBoard}
use Rattle.tap_defs.specs.declared.scan.ScanRows.{ScanRows}
use Rattle.tap_defs.specs.declared.scan.Shape.{Shape}
use Rattle.tap_defs.specs.chain.Scan.{ScanBit, joined}
use Rattle.tap_defs.specs.board.BoardScans.{row_bits}
use Rattle.plan_tables.specs.declared.tables.PlanTables.{PlanTables}
use Rattle.scan_planner.specs.Plans.{FillsScan, scan_of_pass}

-- a board with a plan
pub record PlannedBoard : Type 0 where
  pub board : RawBoard
  pub plan : PlanTables

abbrev pub planned_board : RawBoard → PlanTables → PlannedBoard
planned_board board plan = record { board = board; plan = plan }

-- the rows hold scan `k` of the test, and `shape` says whether it is an instruction scan, and whether it compares a bit
abbrev pub FillsRows : PlannedBoard → ℕ → Shape → ScanRows → Type 0
FillsRows test k shape rows =
    FillsScan test.board test.plan.passes test.plan.width k shape rows.tdi.now.bits
    rows.tdo.now.bits rows.mask.now.bits

-- a pass of the plan, given by its number from 0
pub record PlannedPass : Type 0 where
  pub test : PlannedBoard
  pub number : ℕ

abbrev pub planned_pass : PlannedBoard → ℕ → PlannedPass
planned_pass test number = record { test = test; number = number }

-- the bits of scan `j` of a pass
abbrev pub scan_bits_of : PlannedPass → ℕ → List ScanBit
scan_bits_of pass j = joined (row_bits pass.test.board (scan_of_pass pass.test.board pass.test.plan pass.number j))
