-- Marks of the hexadecimal digits of a log's rows. A digit is marked if, in some row, a compared bit of this digit is not the expected bit.
use Rattle.std.specs.Prelude.{◌≡◌, ℕ, ◌+◌, ◌*◌, ◌/◌, ◌<◌, ◌≤◌, ◌==◌, Bool, true, false, not, List, slice_index_or}
use Rattle.std.specs.List.{list_any}
use Rattle.board_defs.specs.declared.board.RawBoard.{RawBoard}
use Rattle.board_defs.specs.Pins.{data_bits}
use Rattle.net_pins.specs.declared.nets.ReaderCell.{ReaderCell}
use Rattle.plan_tables.specs.declared.tables.PlanTables.{PlanTables}
use Rattle.response_log.specs.LogRows.{bit_in}
use Rattle.fault_sim.specs.declared.kept.ComparedRow.{ComparedRow}
use Rattle.fault_sim.specs.Kept.{compared_in, expected_in}

-- the TDO bits and the MASK bits of the row each have room for the bits of a data scan
pub record HasScanRoom (board : RawBoard) (row : ComparedRow) : Type 0 where
  pub tdo : data_bits board ≤ row.tdo.room
  pub mask : data_bits board ≤ row.mask.room

-- if the test compares row j of pass x at a position, the log has the expected bit there
abbrev pub HasExpected : RawBoard → PlanTables → List (List Bool) → ℕ → ℕ → ℕ → Type 0
HasExpected board plan log x j at =
    slice_index_or (compared_in board plan x j) at false ≡ true
    → bit_in log (x * plan.width + j) at ≡ slice_index_or (expected_in board plan x j) at false

-- the digit that contains this position is not marked, that is, its mark is 0 or missing
abbrev pub IsUnmarked : List ℕ → ℕ → Type 0
IsUnmarked marks at = slice_index_or marks (at / 4) 0 ≡ 0

-- Checking row j of pass x changes the marks from `old` to `new`. If the digit of a position is unmarked in `new`, it is also unmarked in
-- `old`. If the test compares the row at this position, the log then has the expected bit there.
abbrev pub MarkRow : RawBoard → PlanTables → List (List Bool) → ℕ → ℕ → List ℕ → List ℕ → Type 0
MarkRow board plan log x j old new =
    (at : ℕ) → at < data_bits board → IsUnmarked new at
    → IsUnmarked old at × HasExpected board plan log x j at

-- like `MarkRow`, but for the first `rows` rows of pass x
abbrev pub MarkRows : RawBoard → PlanTables → List (List Bool) → ℕ → ℕ → List ℕ → List ℕ → Type 0
MarkRows board plan log x rows old new =
    (at : ℕ) → at < data_bits board → IsUnmarked new at
    → IsUnmarked old at × ((j : ℕ) → j < rows → HasExpected board plan log x j at)

-- if the digit of a position is unmarked, the log has the expected bit there in each row of the first `passes` passes that is compared at
-- this position
abbrev pub AreMarks : RawBoard → PlanTables → List (List Bool) → ℕ → List ℕ → Type 0
AreMarks board plan log passes marks =
    (at : ℕ) → at < data_bits board → IsUnmarked marks at → (x : ℕ) → x < passes → (j : ℕ)
    → j < plan.width → HasExpected board plan log x j at

-- the digit of at least one of these cells is marked
abbrev pub are_marked : List ℕ → List ReaderCell → Bool
are_marked marks readers = list_any (λ r. not (slice_index_or marks (r.position / 4) 0 == 0)) readers
