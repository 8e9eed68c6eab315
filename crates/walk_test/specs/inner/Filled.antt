-- The rows of a scan as one value, for the contracts of private functions.
use Rattle.std.specs.Prelude.{ℕ}
use Rattle.board_defs.specs.declared.board.RawBoard.{RawBoard}
use Rattle.tap_defs.specs.declared.scan.ScanRows.{ScanRows}
use Rattle.tap_defs.specs.declared.scan.Shape.{Shape}
use Rattle.walk_test.specs.Scans.{FillsWalk}

-- the rows are scan k of the walking test
abbrev pub FillsWalkRows : RawBoard → ℕ → Shape → ScanRows → Type 0
FillsWalkRows board k shape rows = FillsWalk board k shape rows.tdi.now.bits rows.tdo.now.bits rows.mask.now.bits
