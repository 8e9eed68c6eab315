-- The scans of a test of a board, and their text.
use Rattle.std.specs.Prelude.{◌≡◌, ℕ, zero, suc, ◌+◌, ◌*◌, ◌≤◌, ◌==◌, nat_lt, Bool, true, false, cond, List, [], ◌∷◌, ◌++◌, length, map, take, replicate, Some, None, is_some, count_by, slice_get}
use Rattle.std.specs.List.{list_any}
use Rattle.board_defs.specs.declared.board.PartKind.{PartKind}
use Rattle.board_defs.specs.declared.board.PartKind.TheVariants.{Described, Bypass}
use Rattle.board_defs.specs.declared.board.Part.{Part}
use Rattle.board_defs.specs.declared.board.Net.{Net}
use Rattle.board_defs.specs.declared.board.RawBoard.{RawBoard}
use Rattle.board_defs.specs.declared.board.Ctl.{Ctl}
use Rattle.board_defs.specs.DeviceRules.{bit_of}
use Rattle.board_defs.specs.Settings.{holds}
use Rattle.board_defs.specs.Passes.{passes_of}
use Rattle.tap_defs.specs.chain.ShiftRegister.{filled}
use Rattle.tap_defs.specs.chain.Scan.{ScanBit, Scan, joined}
use Rattle.tap_defs.specs.chain.Clocks.{all_clocks}
use Rattle.tap_defs.specs.chain.Run.{Clock}
use Rattle.tap_defs.specs.chain.Codes.{instructs}
use Rattle.tap_defs.specs.chain.Text.{svf_text}
use Rattle.tap_defs.specs.board.TestRows.{TestRow, quiet_row, code_row, row_bit, expect_bit, observing_driver, observed_count, code_width}

-- A data scan. It shifts in the row `now` and compares the row `before`. The previous scan shifted in the row `before`,
-- which is in the latches during this scan.
pub record RowScan : Type 0 where
  pub now : TestRow
  pub before : TestRow

-- The bits of one part in a data scan: a bit for each boundary cell of a described part, cell 0 first, or one bit for
-- the bypass register of any other part.
abbrev pub part_bits : RawBoard → RowScan → ℕ → PartKind → List ScanBit
part_bits board scan part (Described device) =
    filled device.boundary
    (λ cell. record {
      tdi = row_bit board scan.now part device cell;
      expect = expect_bit board scan.before
          part device cell;
    })
part_bits board scan part (Bypass n) = record { tdi = false; expect = None } ∷ []

-- the bits of these parts, the first of which has number `part`
abbrev pub bits_by_part : RawBoard → RowScan → ℕ → List Part → List (List ScanBit)
bits_by_part board scan part [] = []
bits_by_part board scan part (p ∷ parts) = part_bits board scan part p.kind ∷ bits_by_part board scan (suc part) parts

-- the bits of all parts
abbrev pub row_bits : RawBoard → RowScan → List (List ScanBit)
row_bits board scan = bits_by_part board scan 0 board.chain

-- the data scan of a row: the bits of all parts, joined
abbrev pub scan_of_row : RawBoard → RowScan → Scan
scan_of_row board scan = record { ir = false; bits = joined (row_bits board scan) }

-- the clocks of these data scans, in the order of the scans
abbrev pub row_clocks : RawBoard → List RowScan → List Clock
row_clocks board scans = all_clocks (map (scan_of_row board) scans)

-- The last `more + 1` data scans of a pass. The first of them shifts in row `j`, or the quiet row if it is the last
-- scan of the pass. Each scan compares the row that the previous scan shifted in, which is `before` for the first. The
-- quiet row enables no controlled driver and has no expected bits.
abbrev pub pass_scans : (ℕ → TestRow) → ℕ → ℕ → TestRow → List RowScan
pass_scans rows zero j before = record { now = quiet_row; before = before } ∷ []
pass_scans rows (suc more) j before = record { now = rows j; before = before } ∷ pass_scans rows more (suc j) (rows j)

-- The data scans of all passes. The scans of a pass shift in its `width` rows and then the quiet row. The quiet row is in
-- the latches before each pass, so the first scan of a pass compares nothing.
abbrev pub row_scans : (List Ctl → ℕ → TestRow) → ℕ → List (List Ctl) → List RowScan
row_scans rows width [] = []
row_scans rows width (pass ∷ passes) = pass_scans (rows pass) width 0 quiet_row ++ row_scans rows width passes

-- The code of SAMPLE/PRELOAD, or of PRELOAD if the description follows the 2001 edition of the standard. A part without
-- a description has a code of ones, which means BYPASS.
abbrev pub preload_code : PartKind → List Bool
preload_code (Described device) = map bit_of device.sample
preload_code (Bypass n) = replicate n true

-- The code of EXTEST. A part without a description has a code of ones.
abbrev pub extest_code : PartKind → List Bool
extest_code (Described device) = map bit_of device.extest
extest_code (Bypass n) = replicate n true

-- the scan that shifts in the quiet row and compares nothing
abbrev pub first_row_scan : RowScan
first_row_scan = record { now = quiet_row; before = quiet_row }

-- the scans of a test: the preload codes, the quiet row, the EXTEST codes, and then these data scans
abbrev pub board_scans : RawBoard → List RowScan → List Scan
board_scans board scans =
    instructs (map (λ part. preload_code part.kind) board.chain)
    ∷ scan_of_row board first_row_scan
    ∷ instructs (map (λ part. extest_code part.kind) board.chain)
    ∷ map (scan_of_row board) scans

-- the scans of the test with these passes and with codes of `width` bits
abbrev pub test_scans : RawBoard → List (List Ctl) → ℕ → List Scan
test_scans board passes width = board_scans board (row_scans (code_row board passes) width passes)

-- the SVF text of the test with these passes
abbrev pub pass_text : RawBoard → List (List Ctl) → ℕ → List ℕ
pass_text board passes width = svf_text (test_scans board passes width)

-- the row that scan `j` of a pass shifts in: row `j`, or the quiet row in the last scan
abbrev pub row_now : (ℕ → TestRow) → ℕ → ℕ → TestRow
row_now rows width j = cond (nat_lt j width) (rows j) quiet_row

-- The row that scan `j` of a pass compares: row `j - 1`. The first scan compares the quiet row, which has no expected
-- bits.
abbrev pub row_before : (ℕ → TestRow) → ℕ → TestRow
row_before rows zero = quiet_row
row_before rows (suc j) = rows j

-- `scans` are the scans of a test, in this order: the preload codes, the quiet row, the EXTEST codes, and
-- then the scans of each pass. A pass has a scan for each row and one for the quiet row.
pub record AreTestScans (board : RawBoard) (passes : List (List Ctl)) (width : ℕ) (scans : List Scan) : Type 0 where
  pub count : length scans ≡ 3 + length passes * suc width
  pub preload : slice_get scans 0 ≡ Some (instructs (map (λ part. preload_code part.kind) board.chain))
  pub quiet : slice_get scans 1 ≡ Some (scan_of_row board first_row_scan)
  pub extest : slice_get scans 2 ≡ Some (instructs (map (λ part. extest_code part.kind) board.chain))
  pub rows : (x : ℕ) (pass : List Ctl) (j : ℕ) → slice_get passes x ≡ Some pass → j ≤ width →
      slice_get scans (3 + (x * suc width + j))
      ≡ Some
      (scan_of_row board
      (record {
        now = row_now (code_row board passes pass) width j;
        before = row_before
            (code_row board passes pass) j;
      }))

-- the data scans of the board's test after the EXTEST codes: those of the board's passes, with the smallest code width
-- that is enough for the observed nets
abbrev pub svf_row_scans : RawBoard → List RowScan
svf_row_scans board =
    let passes : List (List Ctl) = passes_of board in
    row_scans (code_row board passes) (code_width (observed_count board passes)) passes

-- the scans of the board's test
abbrev pub svf_scans : RawBoard → List Scan
svf_scans board = board_scans board (svf_row_scans board)

-- the SVF text of the board's test
abbrev pub board_text : RawBoard → List ℕ
board_text board = svf_text (svf_scans board)

-- A net is a walk net of a setting if the setting observes it.
abbrev pub is_walked : RawBoard → List Ctl → Net → Bool
is_walked board walk net = is_some (observing_driver board (holds walk) net)

-- true if the pass observes some net
abbrev pub observes_some : RawBoard → List Ctl → Bool
observes_some board pass = list_any (is_walked board pass) board.nets

-- Row `j` of the walking test. The walk nets are numbered from 0 in net order. Walk net number `j` carries 1, and the
-- other walk nets carry 0.
abbrev pub walk_row : RawBoard → List Ctl → ℕ → TestRow
walk_row board walk j = record { setting = holds walk; carried = λ n. Some (count_by (is_walked board walk) (take n board.nets) == j) }

-- the data scans of the walking test for this setting, with a row for each walk net
abbrev pub walk_row_scans : RawBoard → List Ctl → List RowScan
walk_row_scans board walk = row_scans (walk_row board) (count_by (is_walked board walk) board.nets) (walk ∷ [])

-- the SVF text of the walking test for this setting
abbrev pub walk_text : RawBoard → List Ctl → List ℕ
walk_text board walk = svf_text (board_scans board (walk_row_scans board walk))
