-- A whole test whose rows have safe settings passes on the board without faults. If its passes form a plan
-- (`IsPlan`), it fails under every nonempty observable fault set.
use Rattle.std.specs.Prelude.{slice_get}
use Rattle.std.proofs.Common.{◌≡◌, Bool, ◌∷◌, zero, List, refl, ℕ, true, [], suc, ◌++◌, Some, ◌∙◌, append_assoc, ap, sym, subst}
use Rattle.board_defs.specs.declared.board.Ctl.{Ctl}
use Rattle.board_defs.specs.declared.board.RawBoard.{RawBoard}
use Rattle.board_defs.specs.BoardRules.{IsBoard}
use Rattle.board_defs.specs.Settings.{IsSafe}
use Rattle.tap_defs.specs.chain.Scan.{joined}
use Rattle.tap_defs.specs.chain.ChainRegisters.{bits_at_pins}
use Rattle.tap_defs.specs.chain.Transport.{scan_passes}
use Rattle.tap_defs.specs.chain.Clocks.{test_clocks, sdr_clocks}
use Rattle.tap_defs.specs.board.BoardScans.{board_scans, row_bits, first_row_scan, row_clocks, RowScan, row_scans, pass_scans}
use Rattle.tap_defs.specs.board.FaultSet.{IsNonempty, IsObservable, FaultSet, no_faults}
use Rattle.tap_defs.specs.chain.Chain.{ChainPart}
use Rattle.tap_defs.specs.board.OnBoard.{FailOnBoard, PassOnBoard, board_wiring}
use Rattle.tap_defs.specs.board.TestRows.{TestRow, code_row, quiet_row}
use Rattle.tap_defs.specs.chain.Run.{Choice, Clock, Wiring, Choices, choices_after, tdos, run_passes, run}
use Rattle.std.proofs.lemmas.Bool.{and_from}
use Rattle.tap_defs.proofs.board.NetRuleLemmas.{net_rules}
use Rattle.tap_defs.proofs.chain.RunLemmas.{two_pass, run-append}
use Rattle.tap_defs.proofs.board.EntryLemmas.{quiet_compares, row_scan_some, whole_passes_as, f3, entered, in_test_after}
use Rattle.tap_defs.proofs.board.RowScanLemmas.{fails_by, row_scan_done}
use Rattle.tap_defs.proofs.board.PassingLemmas.{good_scan}
use Rattle.tap_defs.specs.board.RowCaptures.{registers}
use Rattle.tap_defs.proofs.board.InTestLemmas.{InTest, shifted_row}
use Rattle.tap_defs.proofs.board.DetectionLemmas.{IsPlan, detected}

pub clocks-append : (board : RawBoard) (xs ys : List RowScan) → row_clocks board (xs ++ ys) ≡ row_clocks board xs ++ row_clocks board ys
clocks-append board [] ys = refl
clocks-append board (x ∷ xs) ys =
    let first : List Clock = sdr_clocks (joined (row_bits board x)) in
    ap (λ (r : List Clock). first ++ r) (clocks-append board xs ys) ∙ sym (append_assoc first (row_clocks board xs) (row_clocks board ys))

-- while this row is in the latches of a board without faults, every bit that a scan compares is the expected one
abbrev pub IsGood : RawBoard → TestRow → Type 0
IsGood board row =
    (now before : TestRow) (free : Choice) (chain : List ChainPart)
    → InTest board (shifted_row board (record { now = row; before = before })) chain →
    scan_passes (joined (row_bits board (record { now = now; before = row })))
    (joined (registers (bits_at_pins (board_wiring board no_faults) free chain) board.chain))
    ≡ true

quiet_good : (board : RawBoard) → IsGood board quiet_row
quiet_good board now before free chain h =
    quiet_compares board now
    (joined (registers (bits_at_pins (board_wiring board no_faults) free chain) board.chain))

-- the run passed, and the quiet row is in the latches
pub record Passed (board : RawBoard) (clocks : List Clock) (out : List Bool) (next : List ChainPart) : Type 0 where
  pub passes : run_passes clocks out ≡ true
  pub last : TestRow
  pub quiet : InTest board (shifted_row board (record { now = quiet_row; before = last })) next

module _ (board : RawBoard) (rules : IsBoard board) where
  abbrev good_env : Wiring
  good_env = board_wiring board no_faults

  -- if one scan passes and the scans after it pass, all of them together pass
  passed_then : (t : RowScan) (ts : List RowScan) (free : Choices) (row : List (List Bool)) (chain : List ChainPart) →
      InTest board row chain →
      scan_passes (joined (row_bits board t)) (joined (registers (bits_at_pins good_env (free 2) chain) board.chain)) ≡ true →
      let first : List Clock = sdr_clocks (joined (row_bits board t)) in
      let next : List ChainPart = run good_env first free chain in
      (InTest board (shifted_row board t) next
      → Passed board (row_clocks board ts)
      (tdos good_env (row_clocks board ts) (choices_after first free) next)
      (run good_env (row_clocks board ts) (choices_after first free) next)) →
      Passed board (row_clocks board (t ∷ ts))
      (tdos good_env (row_clocks board (t ∷ ts)) free chain)
      (run good_env (row_clocks board (t ∷ ts)) free chain)
  passed_then t ts free row chain h ok more =
      let first : List Clock = sdr_clocks (joined (row_bits board t)) in
      let e = row_scan_done board no_faults t free row chain h (row_scan_some board rules t) in
      let next : List ChainPart = run good_env first free chain in
      let r = more e.in_test in
      record {
        passes =
            two_pass good_env first (row_clocks board ts) free chain
            ∙ and_from (run_passes first (tdos good_env first free chain))
            (run_passes (row_clocks board ts)
            (tdos good_env (row_clocks board ts) (choices_after first free) next))
            (e.compares ∙ ok) r.passes;
        last = r.last;
        quiet =
            subst
            (λ (m : List ChainPart). InTest board
            (shifted_row board (record { now = quiet_row; before = r.last })) m)
            (sym (run-append good_env first (row_clocks board ts) free chain)) r.quiet;
      }

  no_more : (free : Choices) (before : TestRow) (chain : List ChainPart) →
      InTest board (shifted_row board (record { now = quiet_row; before = before })) chain →
      Passed board [] (tdos good_env [] free chain) (run good_env [] free chain)
  unfolding run tdos
  no_more free before chain h = record { passes = refl; last = before; quiet = h }

  pass_all : (rows : ℕ → TestRow) → ((j : ℕ) → IsGood board (rows j)) → (more j : ℕ) (row before : TestRow) → IsGood board row →
      (free : Choices) (chain : List ChainPart) → InTest board (shifted_row board (record { now = row; before = before })) chain →
      Passed board (row_clocks board (pass_scans rows more j row))
      (tdos good_env (row_clocks board (pass_scans rows more j row)) free chain)
      (run good_env (row_clocks board (pass_scans rows more j row)) free chain)
  pass_all rows good zero j row before ok free chain h =
      let t : RowScan = record { now = quiet_row; before = row } in
      passed_then t [] free (shifted_row board (record { now = row; before = before })) chain h (ok quiet_row before (free 2) chain h)
      (λ k. no_more (choices_after (sdr_clocks (joined (row_bits board t))) free) row
      (run good_env (sdr_clocks (joined (row_bits board t))) free chain) k)
  pass_all rows good (suc more) j row before ok free chain h =
      let t : RowScan = record { now = rows j; before = row } in
      passed_then t (pass_scans rows more (suc j) (rows j)) free
      (shifted_row board (record { now = row; before = before })) chain h
      (ok (rows j) before (free 2) chain h)
      (λ k. pass_all rows good more (suc j) (rows j) row (good j)
      (choices_after (sdr_clocks (joined (row_bits board t))) free)
      (run good_env (sdr_clocks (joined (row_bits board t))) free chain) k)

  passed_two : (xs ys : List RowScan) (free : Choices) (chain : List ChainPart) →
      Passed board (row_clocks board xs) (tdos good_env (row_clocks board xs) free chain) (run good_env (row_clocks board xs) free chain) →
      ((f : Choices) (m : List ChainPart) (before : TestRow)
      → InTest board (shifted_row board (record { now = quiet_row; before = before })) m
      → Passed board (row_clocks board ys) (tdos good_env (row_clocks board ys) f m)
      (run good_env (row_clocks board ys) f m)) →
      Passed board (row_clocks board (xs ++ ys))
      (tdos good_env (row_clocks board (xs ++ ys)) free chain)
      (run good_env (row_clocks board (xs ++ ys)) free chain)
  passed_two xs ys free chain p more =
      let cx : List Clock = row_clocks board xs in
      let cy : List Clock = row_clocks board ys in
      let next : List ChainPart = run good_env cx free chain in
      let r = more (choices_after cx free) next p.last p.quiet in
      subst (λ (c : List Clock). Passed board c (tdos good_env c free chain) (run good_env c free chain)) (sym (clocks-append board xs ys))
      (record {
        passes =
            two_pass good_env cx cy free chain
            ∙ and_from (run_passes cx (tdos good_env cx free chain))
            (run_passes cy (tdos good_env cy (choices_after cx free) next)) p.passes r.passes;
        last = r.last;
        quiet =
            subst
            (λ (m : List ChainPart). InTest board
            (shifted_row board (record { now = quiet_row; before = r.last })) m)
            (sym (run-append good_env cx cy free chain)) r.quiet;
      })

  pub pass_passes : (rows : List Ctl → ℕ → TestRow) (width : ℕ) (ps : List (List Ctl)) →
      ((x : ℕ) (p : List Ctl) → slice_get ps x ≡ Some p → (j : ℕ) → IsGood board (rows p j)) →
      (before : TestRow) (free : Choices) (chain : List ChainPart) →
      InTest board (shifted_row board (record { now = quiet_row; before = before })) chain →
      Passed board (row_clocks board (row_scans rows width ps))
      (tdos good_env (row_clocks board (row_scans rows width ps)) free chain)
      (run good_env (row_clocks board (row_scans rows width ps)) free chain)
  pass_passes rows width [] good before free chain h = no_more free before chain h
  pass_passes rows width (p ∷ ps) good before free chain h =
      passed_two (pass_scans (rows p) width 0 quiet_row) (row_scans rows width ps) free chain
      (pass_all (rows p) (good 0 p refl) width 0 quiet_row before (quiet_good board) free chain h)
      (λ f m b k. pass_passes rows width ps (λ x. good (suc x)) b f m k)

  pub whole_passes : (rows : List Ctl → ℕ → TestRow) (width : ℕ) (passes : List (List Ctl)) →
      ((x : ℕ) (p : List Ctl) → slice_get passes x ≡ Some p → (j : ℕ) → IsSafe board (rows p j).setting) →
      PassOnBoard board no_faults (test_clocks (board_scans board (row_scans rows width passes)))
  whole_passes rows width passes safe states free start =
      let ts : List RowScan = row_scans rows width passes in
      whole_passes_as board rules no_faults states free start ts
      ∙ (pass_passes rows width passes
      (λ x p e j now before f m h. good_scan board (rows p j) (safe x p e j) (net_rules board rules) now before f m h)
      quiet_row (f3 board rules no_faults states free start)
      (entered board rules no_faults states free start)
      (in_test_after board rules no_faults states free start)).passes

  pub whole_fails : (passes : List (List Ctl)) (width : ℕ) → IsPlan board passes width → (faults : FaultSet) → IsObservable board faults →
      IsNonempty faults → FailOnBoard board faults (test_clocks (board_scans board (row_scans (code_row board passes) width passes)))
  whole_fails passes width plan faults observable nonempty states free start =
      let ts : List RowScan = row_scans (code_row board passes) width passes in
      let row : List (List Bool) = shifted_row board first_row_scan in
      whole_passes_as board rules faults states free start ts
      ∙ fails_by board faults (row_scan_some board rules) row ts
      (f3 board rules faults states free start) (entered board rules faults states free start)
      (in_test_after board rules faults states free start)
      (detected board passes width plan faults row observable nonempty)
