-- The fault sets of single faults, the shape of a test's logs, and the condition under which faults explain a log.
use Rattle.std.specs.Prelude.{◌≡◌, ◌<◌, ℕ, suc, ◌+◌, ◌*◌, ◌==◌, Bool, true, cond, not, ◌&&◌, ◌||◌, List, [], ◌∷◌, length, filter, count_by, drop, Option, Some, None, is_some, slice_get, option_and_then, All}
use Rattle.std.specs.List.{sum_by}
use Rattle.board_defs.specs.declared.device.RawDevice.{RawDevice}
use Rattle.board_defs.specs.declared.board.Ctl.{Ctl}
use Rattle.board_defs.specs.declared.board.RawBoard.{RawBoard}
use Rattle.board_defs.specs.declared.fault.Kind.{Kind}
use Rattle.board_defs.specs.declared.fault.Kind.TheVariants.{And, Or, First, Second}
use Rattle.board_defs.specs.declared.fault.Single.{Single}
use Rattle.board_defs.specs.declared.fault.Single.TheVariants.{StuckNet, OpenPin, Short}
use Rattle.board_defs.specs.DeviceRules.{reading_entry}
use Rattle.board_defs.specs.Settings.{IsSafe}
use Rattle.board_defs.specs.Pins.{device_at, data_length, data_bits}
use Rattle.tap_defs.specs.board.FaultSet.{ShortKind, And as AndShort, Or as OrShort, Dominant, FaultSet, no_faults}
use Rattle.tap_defs.specs.board.OnBoard.{PassOnBoard}
use Rattle.tap_defs.specs.chain.Scan.{ScanBit, Scan, joined, compares}
use Rattle.tap_defs.specs.chain.Run.{Choice}
use Rattle.tap_defs.specs.chain.Clocks.{test_clocks}
use Rattle.tap_defs.specs.chain.Transport.{scan_passes}
use Rattle.tap_defs.specs.board.NetBits.{Place, place_of}
use Rattle.tap_defs.specs.board.TestRows.{TestRow, quiet_row, expect_bit}
use Rattle.tap_defs.specs.board.BoardScans.{RowScan, row_bits, scan_of_row, board_scans, row_now, svf_row_scans}
use Rattle.tap_defs.specs.board.RowCaptures.{row_captured, AgreeWhereCompared}

-- the kind of a short of the nets `a` and `b`; First makes `a` dominant, and Second makes `b` dominant
abbrev pub short_kind : ℕ → ℕ → Kind → ShortKind
short_kind a b And = AndShort
short_kind a b Or = OrShort
short_kind a b First = Dominant a
short_kind a b Second = Dominant b

-- The fault set of a single fault. If the fault is a short, the short has number 0.
abbrev pub set_of : Single → FaultSet
set_of (StuckNet net value) = record no_faults { stuck = λ n. cond (n == net) (Some value) None }
set_of (OpenPin pin value) = record no_faults { opened = λ n i. cond ((n == pin.net) && (i == pin.place)) (Some value) None }
set_of (Short a b kind) = record no_faults { short = λ n. cond ((n == a) || (n == b)) (Some 0) None; kind = λ k. short_kind a b kind }

-- the bits of a scan, with none of them compared
abbrev pub uncompared : List ScanBit → List ScanBit
uncompared [] = []
uncompared (bit ∷ bits) = record bit { expect = None } ∷ uncompared bits

-- The bits of a scan with a row of a log as the expected bits. A bit that the scan does not compare, or that is past
-- the end of the row, is not compared.
abbrev pub bits_by_log : List ScanBit → List Bool → List ScanBit
bits_by_log [] row = []
bits_by_log (bit ∷ bits) [] = uncompared (bit ∷ bits)
bits_by_log (bit ∷ bits) (logged ∷ row) = record bit { expect = cond (is_some bit.expect) (Some logged) None } ∷ bits_by_log bits row

-- true if the scan is an SDR statement that compares some bit
abbrev pub is_compared : Scan → Bool
is_compared scan = not scan.ir && compares scan.bits

-- The scans with a log as the expected bits. Each compared SDR statement uses the next row of the log. A compared SDR
-- statement after the end of the log compares nothing, and neither does any other statement.
abbrev pub scans_by_log : List Scan → List (List Bool) → List Scan
scans_by_log [] log = []
scans_by_log (scan ∷ scans) [] = record scan { bits = uncompared scan.bits } ∷ scans_by_log scans []
scans_by_log (scan ∷ scans) (row ∷ log) =
    cond (is_compared scan) (record scan { bits = bits_by_log scan.bits row } ∷ scans_by_log scans log)
    (record scan { bits = uncompared scan.bits } ∷ scans_by_log scans (row ∷ log))

-- The log has the shape of a log of this test: a row for each compared SDR statement, and in each row a bit for each
-- position of a data scan.
pub record HasShape (board : RawBoard) (scans : List RowScan) (log : List (List Bool)) : Type 0 where
  pub rows : length log ≡ count_by is_compared (board_scans board scans)
  pub bits : All (λ row. length row ≡ data_bits board) log

-- The faults explain the log: the log has the shape of a log of this test, and in every run of the test with these
-- faults, each compared bit of each compared SDR statement is the log's bit in that row and at that position.
pub record ExplainedBy (board : RawBoard) (faults : FaultSet) (scans : List RowScan) (log : List (List Bool)) : Type 0 where
  pub shape : HasShape board scans log
  pub passes : PassOnBoard board faults (test_clocks (scans_by_log (board_scans board scans) log))

-- the single fault explains this log of the board's test
abbrev pub Explains : RawBoard → Single → List (List Bool) → Type 0
Explains board single log = ExplainedBy board (set_of single) (svf_row_scans board) log

-- true if each row of the log has the expected bit wherever its scan compares a bit; row `x` belongs to scan `x`
abbrev pub are_expected : List Scan → List (List Bool) → Bool
are_expected [] log = true
are_expected (scan ∷ scans) [] = true
are_expected (scan ∷ scans) (row ∷ log) = scan_passes scan.bits row && are_expected scans log

-- the log has the shape of the test, and every compared bit is the expected one
pub record IsExpected (board : RawBoard) (scans : List RowScan) (log : List (List Bool)) : Type 0 where
  pub shape : HasShape board scans log
  pub bits : are_expected (filter is_compared (board_scans board scans)) log ≡ true

-- the data scans that compare some bit, in the order of the test; row `x` of a log belongs to scan `x` of this list
abbrev pub compared_scans : RawBoard → List RowScan → List RowScan
compared_scans board scans = filter (λ scan. is_compared (scan_of_row board scan)) scans

-- The scans compare `width` rows of each pass, pass by pass. Scan `x * width + j` compares row `j` of pass `x` and
-- shifts in the next row of the pass, or the quiet row (`quiet_row`) after the last one.
pub record CompareRows (rows : List Ctl → ℕ → TestRow) (width : ℕ) (passes : List (List Ctl)) (scans : List RowScan) : Type 0 where
  pub count : length scans ≡ length passes * width
  pub each : (x : ℕ) (pass : List Ctl) (j : ℕ) → slice_get passes x ≡ Some pass → j < width →
      slice_get scans (x * width + j) ≡ Some (record { now = row_now (rows pass) width (suc j); before = rows pass j })

-- Each scan compares the row that the previous scan shifted in. The first scan compares `row`.
abbrev pub Follow : TestRow → List RowScan → Type 0
Follow row [] = Unit {0}
Follow row (scan ∷ scans) = (scan.before ≡ row) × Follow scan.now scans

-- Each scan compares the row that is in the latches: the first scan compares the quiet row, and each later scan
-- compares the row that the previous scan shifted in. The setting of every row that a compared scan compares is safe.
pub record AreInTurn (board : RawBoard) (scans : List RowScan) : Type 0 where
  pub follow : Follow quiet_row scans
  pub safe : (x : ℕ) (scan : RowScan) → slice_get (compared_scans board scans) x ≡ Some scan → IsSafe board scan.before.setting

-- Wherever a scan compares a bit, its row of the log has the bit that the cells capture under these faults, whatever
-- the free bits are. The cells capture while `scan.before` is in the latches.
abbrev pub IsCapturedBy : RawBoard → FaultSet → List RowScan → List (List Bool) → Type 0
IsCapturedBy board faults scans log =
    (x : ℕ) (scan : RowScan) (logged : List Bool) (choice : Choice)
    → slice_get (compared_scans board scans) x ≡ Some scan → slice_get log x ≡ Some logged →
    AgreeWhereCompared (joined (row_bits board scan)) logged (row_captured board faults scan.before choice)

-- the two logs have the same bit wherever these scans compare a bit
abbrev pub AgreeOn : RawBoard → List RowScan → List (List Bool) → List (List Bool) → Type 0
AgreeOn board scans log other =
    (x : ℕ) (scan : RowScan) (logged second : List Bool)
    → slice_get (compared_scans board scans) x ≡ Some scan → slice_get log x ≡ Some logged
    → slice_get other x ≡ Some second →
    AgreeWhereCompared (joined (row_bits board scan)) logged second

-- the position of a cell in a data scan: the bits of all later parts have lower positions
abbrev pub cell_position : RawBoard → ℕ → ℕ → ℕ
cell_position board part cell = sum_by (λ p. data_length p.kind) (drop (suc part) board.chain) + cell

-- The place of the pin that the cell reads, or None if the cell reads no pin of a net. A place names the net and the
-- pin's position in the net.
abbrev pub read_place : RawBoard → ℕ → RawDevice → ℕ → Option Place
read_place board part device cell =
    option_and_then
    (λ entry. option_and_then (λ b. place_of (record { part = part; bit = b }) 0 board.nets)
    entry.bit) (reading_entry device cell)

-- the cell of a described part is compared in this row: it reads the pin at `place`, and `expected` is its expected bit
pub record IsCompared (board : RawBoard) (row : TestRow) (part : ℕ) (device : RawDevice) (cell : ℕ)
    (place : Place) (expected : Bool) : Type 0 where
  pub is_device : device_at board part ≡ Some device
  pub below : cell < device.boundary
  pub reads : read_place board part device cell ≡ Some place
  pub expects : expect_bit board row part device cell ≡ Some expected

-- In each row of the log, each compared cell has the bit that `bit` gives for the row in the latches, the place of the cell's pin and the
-- expected bit.
abbrev pub ShowsBits : RawBoard → List RowScan → (TestRow → Place → Bool → Bool) → List (List Bool) → Type 0
ShowsBits board scans bit log =
    (x : ℕ) (scan : RowScan) (logged : List Bool) (part : ℕ) (device : RawDevice) (cell : ℕ) (place : Place) (expected : Bool) →
    slice_get (compared_scans board scans) x ≡ Some scan → slice_get log x ≡ Some logged →
    IsCompared board scan.before part device cell place expected →
    slice_get logged (cell_position board part cell) ≡ Some (bit scan.before place expected)
