-- Proof that the SVF text of a board's passes is a test of the board.
use Rattle.std.specs.Prelude.{slice_get, count_by}
use Rattle.std.proofs.Common.{◌+◌, ◌∷◌, [], ◌<◌, ◌*◌, suc, ◌≤◌, ◌^◌, ℕ, Bool, List, length-append, length, arith, map, Some, ◌≡◌, ◌∙◌, zero, refl, subst, sym}
use Rattle.board_defs.specs.declared.board.Part.{Part}
use Rattle.board_defs.specs.declared.board.Ctl.{Ctl}
use Rattle.board_defs.specs.declared.board.RawBoard.{RawBoard}
use Rattle.board_defs.specs.declared.board.PartKind.{PartKind}
use Rattle.board_defs.specs.declared.board.PartKind.TheVariants.{Described, Bypass}
use Rattle.board_defs.specs.BoardRules.{IsBoard, IsPart}
use Rattle.board_defs.specs.Passes.{ArePasses, passes_of}
use Rattle.board_defs.proofs.PassesReach.{passes_kept}
use Rattle.board_defs.specs.Settings.{holds, IsSafe}
use Rattle.tap_defs.specs.chain.Scan.{joined, ScanBit}
use Rattle.tap_defs.specs.chain.Codes.{code_bits}
use Rattle.tap_defs.specs.board.BoardScans.{scan_of_row, pass_text, board_scans, row_bits, extest_code, preload_code, first_row_scan, walk_row, is_walked, walk_text, board_text, RowScan, part_bits, row_scans, bits_by_part}
use Rattle.tap_defs.specs.board.OnBoard.{test_logic}
use Rattle.tap_defs.specs.board.TestRows.{observed_count, code_width, expect_bit, row_bit, code_row, TestRow}
use Rattle.tap_defs.specs.chain.Clocks.{test_clocks}
use Rattle.tap_defs.specs.board.BoardTest.{IsBoardTest, IsHarmless}
use Rattle.tap_defs.specs.chain.Text.{AllSized, svf_text}
use Rattle.tap_defs.proofs.chain.ListLemmas.{length-filled}
use Rattle.tap_defs.proofs.board.WidthLemmas.{width_is}
use Rattle.tap_defs.proofs.board.CalmLemmas.{whole_quiet}
use Rattle.tap_defs.proofs.chain.InstructLemmas.{length-instructs}
use Rattle.tap_defs.proofs.board.PlanLemmas.{planned}
use Rattle.tap_defs.proofs.board.WholeLemmas.{whole_fails, whole_passes}
use Rattle.tap_defs.proofs.chain.MeaningLemmas.{text_means}
use Rattle.tap_defs.proofs.board.EntryLemmas.{CodesFit, Parts, codes_total, parts_of, row_scan_some, extest_fits, preload_fits}

codes_most : (code : PartKind → List Bool) (ps : List Part) → CodesFit code ps → Parts ps →
    length (joined (map (λ p. code p.kind) ps)) ≤ 255 * length ps
codes_most code [] f h = omega arith
codes_most code (p ∷ ps) f h =
    omega (
      arith,
      length-append (joined (map (λ p. code p.kind) ps)) (code p.kind),
      codes_most code ps f.1 h.1,
      f.0,
      most p.kind h.0,
    )
  where
    most : (kind : PartKind) → IsPart kind → (test_logic kind).ir_length ≤ 255
    most (Described device) r = r.ir_most
    most (Bypass n) r = r.1

row_scan_most : (board : RawBoard) (t : RowScan) (k : ℕ) (ps : List Part) → Parts ps →
    length (joined (bits_by_part board t k ps)) ≤ 65535 * length ps
row_scan_most board t k [] h = omega arith
row_scan_most board t k (p ∷ ps) h =
    omega (
      arith,
      length-append (joined (bits_by_part board t (suc k) ps)) (part_bits board t k p.kind),
      row_scan_most board t (suc k) ps h.1,
      most p.kind h.0,
    )
  where
    most : (kind : PartKind) → IsPart kind → length (part_bits board t k kind) ≤ 65535
    most (Described device) r =
        omega (
          arith,
          length-filled {A = ScanBit} device.boundary
              (λ cell. record {
                tdi = row_bit board t.now k device cell;
                expect = expect_bit board t.before k
                    device cell;
              }),
          r.boundary_most,
        )
    most (Bypass n) r = omega arith

module _ (board : RawBoard) (rules : IsBoard board) where
  codes_sized : (code : PartKind → List Bool) → CodesFit code board.chain →
      let bits : List ScanBit = joined (map code_bits (map (λ p. code p.kind) board.chain)) in
      (0 < length bits) × (length bits < 2 ^ 64)
  codes_sized code fit =
      let size = length-instructs (map (λ p. code p.kind) board.chain) in (
        omega (arith, size, codes_total code board.chain fit (parts_of board rules), rules.chain_some),
        omega (arith, size, codes_most code board.chain fit (parts_of board rules), rules.chain_most),
      )

  row_scan_sized : (t : RowScan) → (0 < length (joined (row_bits board t))) × (length (joined (row_bits board t)) < 2 ^ 64)
  row_scan_sized t = (
    row_scan_some board rules t,
    omega (arith, row_scan_most board t 0 board.chain (parts_of board rules), rules.chain_most),
  )

  row_scans_sized : (ts : List RowScan) → AllSized (map (scan_of_row board) ts)
  row_scans_sized [] = tt
  row_scans_sized (t ∷ ts) = (row_scan_sized t, row_scans_sized ts)

  pub scans_sized : (ts : List RowScan) → AllSized (board_scans board ts)
  scans_sized ts = (
    codes_sized preload_code (preload_fits board.chain (parts_of board rules)),
    (row_scan_sized first_row_scan, (codes_sized extest_code (extest_fits board.chain (parts_of board rules)), row_scans_sized ts)),
  )

pub is_test : (board : RawBoard) (passes : List (List Ctl)) (width : ℕ) → IsBoard board → ArePasses board passes →
    observed_count board passes + 2 ≤ 2 ^ width → IsBoardTest board (pass_text board passes width)
is_test board passes width rules are enough =
    let ts : List RowScan = row_scans (code_row board passes) width passes in
    record {
      clocks = test_clocks (board_scans board ts);
      means = text_means (board_scans board ts) (scans_sized board rules ts);
      passes = whole_passes board rules (code_row board passes) width passes (λ x p e j. are.safe x p e);
      quiet =
          λ faults states free set start. whole_quiet board rules faults holds
          (code_row board passes) width passes are.safe (λ p j c e. e) states free start;
      fails =
          λ faults observable nonempty. whole_fails board rules passes width
          (planned board rules passes are width enough) faults observable nonempty;
    }

pub is_harmless : (board : RawBoard) (rows : List Ctl → ℕ → TestRow) (width : ℕ) (passes : List (List Ctl)) → IsBoard board →
    ((x : ℕ) (p : List Ctl) → slice_get passes x ≡ Some p → IsSafe board (holds p)) →
    ((p : List Ctl) (j : ℕ) (c : Ctl) → (rows p j).setting c ≡ holds p c) →
    ((x : ℕ) (p : List Ctl) → slice_get passes x ≡ Some p → (j : ℕ) → IsSafe board (rows p j).setting) →
    IsHarmless board (svf_text (board_scans board (row_scans rows width passes)))
is_harmless board rows width passes rules safe same safe_rows =
    let ts : List RowScan = row_scans rows width passes in
    record {
      clocks = test_clocks (board_scans board ts);
      means = text_means (board_scans board ts) (scans_sized board rules ts);
      passes = whole_passes board rules rows width passes safe_rows;
      quiet =
          λ faults states free set start. whole_quiet board rules faults holds rows width passes
          safe (λ p j c e. sym (same p j c) ∙ e) states free start;
    }

pub walk_harmless : (board : RawBoard) (walk : List Ctl) → IsBoard board → IsSafe board (holds walk) →
    IsHarmless board (walk_text board walk)
walk_harmless board walk rules safe =
    is_harmless board (walk_row board) (count_by (is_walked board walk) board.nets) (walk ∷ []) rules
    (λ x p e. only x p e) (λ p j c. refl) (λ x p e j. only x p e)
  where
    only : (x : ℕ) (p : List Ctl) → slice_get (walk ∷ []) x ≡ Some p → IsSafe board (holds p)
    only zero p e = let z : walk ≡ p = cc e in subst (λ (q : List Ctl). IsSafe board (holds q)) z safe
    only (suc x) p e = cc e

pub passes_harmless : (board : RawBoard) (passes : List (List Ctl)) (width : ℕ) → IsBoard board →
    ((x : ℕ) (pass : List Ctl) → slice_get passes x ≡ Some pass → IsSafe board (holds pass)) →
    IsHarmless board (pass_text board passes width)
passes_harmless board passes width rules safe =
    is_harmless board (code_row board passes) width passes rules safe (λ p j c. refl)
    (λ x p e j. safe x p e)

pub board_tested : (board : RawBoard) → IsBoard board → IsBoardTest board (board_text board)
board_tested board rules =
    is_test board (passes_of board) (code_width (observed_count board (passes_of board))) rules
    (passes_kept board rules) (width_is (observed_count board (passes_of board))).enough
