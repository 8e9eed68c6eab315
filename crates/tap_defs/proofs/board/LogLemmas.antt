-- The statements of a test that have rows in its logs, and the faults that explain a log of expected bits.
use Rattle.std.proofs.Common.{◌≡◌, ◌↔◌, ℕ, suc, ◌+◌, ◌≤◌, ◌^◌, Bool, true, false, cond, ◌||◌, List, [], ◌∷◌, length, map, filter, Option, Some, None, refl, sym, ◌∙◌, ap, subst, arith, length-append}
use Rattle.std.specs.Prelude.{is_some, count_by}
use Rattle.std.specs.List.{AllByRecursion, sum_by}
use Rattle.std.proofs.lemmas.Bool.{and_parts, both_ways}
use Rattle.std.proofs.lemmas.List.{length-map}
use Rattle.std.proofs.lemmas.List.Elements.{recursion_from_All}
use Rattle.std.proofs.lemmas.List.Sums.{length-filter, sum_by-cons}
use Rattle.board_defs.specs.declared.board.Ctl.{Ctl}
use Rattle.board_defs.specs.declared.board.PartKind.{PartKind}
use Rattle.board_defs.specs.declared.board.PartKind.TheVariants.{Described, Bypass as WithoutDescription}
use Rattle.board_defs.specs.declared.board.Part.{Part}
use Rattle.board_defs.specs.declared.board.RawBoard.{RawBoard}
use Rattle.board_defs.specs.BoardRules.{IsBoard}
use Rattle.board_defs.specs.Pins.{data_length, data_bits}
use Rattle.board_defs.specs.Passes.{ArePasses, passes_of}
use Rattle.board_defs.proofs.PassesReach.{passes_kept}
use Rattle.tap_defs.specs.chain.Chain.{ChainPart}
use Rattle.tap_defs.specs.chain.Run.{Clock, Choice, Choices, bit_passes, run_passes, tdos}
use Rattle.tap_defs.specs.chain.Scan.{ScanBit, Scan, joined, compares}
use Rattle.tap_defs.specs.chain.Clocks.{test_clocks, all_clocks}
use Rattle.tap_defs.specs.chain.Transport.{scan_passes}
use Rattle.tap_defs.specs.board.FaultSet.{FaultSet, IsObservable, IsNonempty}
use Rattle.tap_defs.specs.board.OnBoard.{board_wiring, board_logics, PassOnBoard, FailOnBoard}
use Rattle.tap_defs.specs.board.TestRows.{quiet_row, code_row, code_width, observed_count}
use Rattle.tap_defs.specs.board.BoardScans.{RowScan, part_bits, bits_by_part, row_bits, scan_of_row, first_row_scan, board_scans, row_scans, svf_row_scans}
use Rattle.tap_defs.specs.board.Explaining.{uncompared, bits_by_log, is_compared, scans_by_log, compared_scans, ExplainedBy, are_expected, IsExpected}
use Rattle.tap_defs.specs.board.RowCaptures.{CapturesPass}
use Rattle.tap_defs.proofs.chain.ListLemmas.{cons_path, length-filled}
use Rattle.tap_defs.proofs.board.EntryLemmas.{quiet_silent, entered, f3, whole_passes_as}
use Rattle.tap_defs.proofs.board.CaptureLemmas.{ShiftRows, silent_compares, run_follows, captures_follow, with_any, CapturesPassBy, some_chain, some_start, in_extest_held, left_always, log_captured}
use Rattle.tap_defs.proofs.board.PlanLemmas.{planned}
use Rattle.tap_defs.proofs.board.WholeLemmas.{whole_fails}
use Rattle.tap_defs.proofs.board.WidthLemmas.{width_is}

filter-map : {A B : Type 0} (p : B → Bool) (f : A → B) (xs : List A) → filter p (map f xs) ≡ map f (filter (λ x. p (f x)) xs)
filter-map p f [] = refl
filter-map p f (x ∷ xs) = by_test (p (f x)) (filter-map p f xs)
  where
    by_test : (b : Bool) → filter p (map f xs) ≡ map f (filter (λ y. p (f y)) xs) →
        cond b (f x ∷ filter p (map f xs)) (filter p (map f xs)) ≡ map f (cond b (x ∷ filter (λ y. p (f y)) xs) (filter (λ y. p (f y)) xs))
    by_test true e = cons_path refl e
    by_test false e = e

pub statements_compared : (board : RawBoard) (scans : List RowScan) →
    filter is_compared (board_scans board scans) ≡ map (scan_of_row board) (compared_scans board scans)
statements_compared board scans =
    let rest : List Scan = filter is_compared (map (scan_of_row board) scans) in
    ap (λ (b : Bool). cond b (scan_of_row board first_row_scan ∷ rest) rest)
    (silent_compares (joined (row_bits board first_row_scan)) (quiet_silent board quiet_row 0 board.chain))
    ∙ filter-map is_compared (scan_of_row board) scans

pub rows_counted : (board : RawBoard) (scans : List RowScan)
    → count_by is_compared (board_scans board scans) ≡ length (compared_scans board scans)
rows_counted board scans =
    sym (length-filter is_compared (board_scans board scans))
    ∙ ap (λ (l : List Scan). length l) (statements_compared board scans)
    ∙ length-map (compared_scans board scans) (scan_of_row board)

length-bits_by_part : (board : RawBoard) (t : RowScan) (k : ℕ) (ps : List Part) →
    length (joined (bits_by_part board t k ps)) ≡ sum_by (λ p. data_length p.kind) ps
length-bits_by_part board t k [] = refl
length-bits_by_part board t k (p ∷ ps) =
    length-append (joined (bits_by_part board t (suc k) ps)) (part_bits board t k p.kind)
    ∙ omega (arith, length-bits_by_part board t (suc k) ps, one p.kind, sum_by-cons (λ (q : Part). data_length q.kind) p ps)
  where
    one : (kind : PartKind) → length (part_bits board t k kind) ≡ data_length kind
    one (Described device) = length-filled device.boundary _
    one (WithoutDescription n) = refl

pub length-row_bits : (board : RawBoard) (t : RowScan) → length (joined (row_bits board t)) ≡ data_bits board
length-row_bits board t = length-bits_by_part board t 0 board.chain

value_is : (o : Option Bool) (r : Bool) → bit_passes o r ≡ true → cond (is_some o) (Some r) None ≡ o
value_is None r h = refl
value_is (Some true) true h = refl
value_is (Some true) false h = cc h
value_is (Some false) true h = cc h
value_is (Some false) false h = refl

same_by_log : (bits : List ScanBit) (row : List Bool) → length row ≡ length bits → scan_passes bits row ≡ true → bits_by_log bits row ≡ bits
same_by_log [] row l e = refl
same_by_log (b ∷ bits) [] l e = absurd (omega (arith, l))
same_by_log (b ∷ bits) (r ∷ row) l e =
    let p = and_parts (bit_passes b.expect r) (scan_passes bits row) e in
    cons_path (ap (λ (o : Option Bool). record b { expect = o }) (value_is b.expect r p.0)) (same_by_log bits row (omega (arith, l)) p.1)

silent_same : (bits : List ScanBit) → compares bits ≡ false → uncompared bits ≡ bits
silent_same [] e = refl
silent_same (b ∷ bits) e = by_expect (silent_same bits) b.expect refl e
  where
    by_expect : (compares bits ≡ false → uncompared bits ≡ bits) → (o : Option Bool) → b.expect ≡ o
        → (is_some o || compares bits) ≡ false → uncompared (b ∷ bits) ≡ b ∷ bits
    by_expect ih None q h = cons_path (ap (λ (o : Option Bool). record b { expect = o }) (sym q)) (ih h)
    by_expect ih (Some v) q h = cc h

-- If a log is the expected one, its rows have the expected bits wherever the statements compare. So the rows may
-- replace the expected bits.
module _ (board : RawBoard) where
  abbrev statement : RowScan → Scan
  statement t = scan_of_row board t

  abbrev AllLong : List (List Bool) → Type 0
  AllLong log = AllByRecursion (λ row. length row ≡ data_bits board) log

  expected_same : (ts : List RowScan) (log : List (List Bool)) → length log ≡ length (compared_scans board ts) → AllLong log →
      are_expected (filter is_compared (map statement ts)) log ≡ true →
      scans_by_log (map statement ts) log ≡ map statement ts
  expected_same [] log l long e = refl
  expected_same (t ∷ ts) [] l long e =
      by_test
      (λ h. expected_same ts [] h tt (none_expected (filter is_compared (map statement ts))))
      (compares (joined (row_bits board t))) refl l
    where
      by_test :
          (◌≡◌ {A = ℕ} 0 (length (compared_scans board ts))
          → scans_by_log (map statement ts) [] ≡ map statement ts) → (b : Bool)
          → compares (joined (row_bits board t)) ≡ b
          → ◌≡◌ {A = ℕ} 0 (length (cond b (t ∷ compared_scans board ts) (compared_scans board ts)))
          →
          record (statement t) { bits = uncompared (joined (row_bits board t)) }
          ∷ scans_by_log (map statement ts) [] ≡ statement t ∷ map statement ts
      by_test ih true q h = absurd (omega (arith, h))
      by_test ih false q h =
          cons_path (ap (λ (bits : List ScanBit). record (statement t) { bits = bits }) (silent_same (joined (row_bits board t)) q)) (ih h)

      none_expected : (scans : List Scan) → are_expected scans [] ≡ true
      none_expected [] = refl
      none_expected (s ∷ scans) = refl
  expected_same (t ∷ ts) (row ∷ log) l long e = by_test (λ more. expected_same ts more) (compares (joined (row_bits board t))) refl l e
    where
      by_test :
          ((more : List (List Bool)) → length more ≡ length (compared_scans board ts)
          → AllLong more → are_expected (filter is_compared (map statement ts)) more ≡ true
          → scans_by_log (map statement ts) more ≡ map statement ts) → (b : Bool)
          → compares (joined (row_bits board t)) ≡ b
          → suc (length log)
          ≡ length (cond b (t ∷ compared_scans board ts) (compared_scans board ts)) →
          are_expected
          (cond b (statement t ∷ filter is_compared (map statement ts))
          (filter is_compared (map statement ts))) (row ∷ log) ≡ true →
          cond b (record (statement t) { bits = bits_by_log (joined (row_bits board t)) row } ∷ scans_by_log (map statement ts) log)
          (record (statement t) { bits = uncompared (joined (row_bits board t)) }
          ∷ scans_by_log (map statement ts) (row ∷ log)) ≡ statement t ∷ map statement ts
      by_test ih true q h x =
          let both = and_parts (scan_passes (joined (row_bits board t)) row) (are_expected (filter is_compared (map statement ts)) log) x in
          cons_path
          (ap (λ (bits : List ScanBit). record (statement t) { bits = bits })
          (same_by_log (joined (row_bits board t)) row
          (long.0 ∙ sym (length-row_bits board t)) both.0))
          (ih log (omega (arith, h)) long.1 both.1)
      by_test ih false q h x =
          cons_path (ap (λ (bits : List ScanBit). record (statement t) { bits = bits }) (silent_same (joined (row_bits board t)) q))
          (ih (row ∷ log) h long x)

  pub log_same : (ts : List RowScan) (log : List (List Bool)) → IsExpected board ts log
      → scans_by_log (map statement ts) log ≡ map statement ts
  log_same ts log e =
      expected_same ts log (e.shape.rows ∙ rows_counted board ts)
      (recursion_from_All (λ (row : List Bool). length row ≡ data_bits board) log e.shape.bits)
      (ap (λ (scans : List Scan). are_expected scans log)
      (filter-map is_compared statement ts ∙ sym (statements_compared board ts)) ∙ e.bits)

  plain_shifts : (ts : List RowScan) → ShiftRows board ts (map statement ts)
  plain_shifts [] = tt
  plain_shifts (t ∷ ts) = (refl, refl, plain_shifts ts)

  module _ (rules : IsBoard board) (faults : FaultSet) (ts : List RowScan) where
    by_captures : CapturesPass board faults quiet_row ts (map statement ts) → PassOnBoard board faults (test_clocks (board_scans board ts))
    by_captures ok chain free start =
        whole_passes_as board rules faults chain free start ts
        ∙ run_follows board rules faults ts (map statement ts) quiet_row quiet_row
        (f3 board rules faults chain free start) (entered board rules faults chain free start)
        (in_extest_held board rules faults ts [] chain free start) (plain_shifts ts) ok

    captures_by : PassOnBoard board faults (test_clocks (board_scans board ts)) → CapturesPass board faults quiet_row ts (map statement ts)
    captures_by passes = with_any board rules faults ts (map statement ts) quiet_row by_choice
      where
        by_choice : (choice : Choice) → CapturesPassBy board rules faults choice quiet_row ts (map statement ts)
        by_choice choice =
            let free : Choices = λ k. choice in
            let chain : List ChainPart = some_chain (board_logics board) in
            let start = some_start board in
            let clocks : List Clock = all_clocks (map statement ts) in
            let under_extest : List ChainPart = entered board rules faults chain free start in
            let run_ok = sym (whole_passes_as board rules faults chain free start ts) ∙ passes chain free start in
            captures_follow board rules faults choice ts (map statement ts) quiet_row quiet_row
            under_extest (in_extest_held board rules faults ts [] chain free start)
            (plain_shifts ts)
            (sym
            (ap
            (λ (g : Choices). run_passes clocks
            (tdos (board_wiring board faults) clocks g under_extest))
            (left_always board rules faults ts [] choice chain start)) ∙ run_ok)

    pub expected_explained : (log : List (List Bool)) → IsExpected board ts log →
        ExplainedBy board faults ts log ↔ PassOnBoard board faults (test_clocks (board_scans board ts))
    expected_explained log e =
        let same = log_same ts log e in
        let captured = log_captured board rules faults ts log in (
          λ h. by_captures (subst (λ (scans : List Scan). CapturesPass board faults quiet_row ts scans) same (captured.0 h.passes)),
          λ p. record {
            shape = e.shape;
            passes = captured.1 (subst (λ (scans : List Scan). CapturesPass board faults quiet_row ts scans) (sym same) (captures_by p));
          },
        )

  -- No text both passes and fails under a fault set, because the board has at least one run. So a fault set that the
  -- text detects explains no log of expected bits.
  not_both : (faults : FaultSet) (clocks : List Clock) → FailOnBoard board faults clocks → PassOnBoard board faults clocks → ⊥
  not_both faults clocks fails passes =
      let free : Choices = λ k. some_choice in
      let chain : List ChainPart = some_chain (board_logics board) in
      both_ways (run_passes clocks (tdos (board_wiring board faults) clocks free chain))
      (fails chain free (some_start board)) (passes chain free (some_start board))
    where
      some_choice : Choice
      some_choice =
          record {
            parts = λ k. record {
              ir = λ i. false;
              cells = λ i. false;
              latches = λ i. false;
              tdo = false;
              other =
                  false;
            };
            shorts = λ k. false;
            tdi = false;
          }

  pub expected_unexplained : (passes : List (List Ctl)) (width : ℕ) → IsBoard board
      → ArePasses board passes → observed_count board passes + 2 ≤ 2 ^ width →
      (log : List (List Bool)) → IsExpected board (row_scans (code_row board passes) width passes) log →
      (faults : FaultSet) → IsObservable board faults → IsNonempty faults
      → ExplainedBy board faults (row_scans (code_row board passes) width passes) log → ⊥
  expected_unexplained passes width rules are enough log e faults observable nonempty h =
      let ts : List RowScan = row_scans (code_row board passes) width passes in
      not_both faults (test_clocks (board_scans board ts))
      (whole_fails board rules passes width (planned board rules passes are width enough) faults observable nonempty)
      ((expected_explained rules faults ts log e).0 h)

  pub own_unexplained : IsBoard board → (log : List (List Bool)) → IsExpected board (svf_row_scans board) log →
      (faults : FaultSet) → IsObservable board faults → IsNonempty faults → ExplainedBy board faults (svf_row_scans board) log → ⊥
  own_unexplained rules =
      expected_unexplained (passes_of board) (code_width (observed_count board (passes_of board)))
      rules (passes_kept board rules) (width_is (observed_count board (passes_of board))).enough
