-- Two equivalences about a log that has the shape of the test. A single fault explains it if and only if each compared
-- cell has in it the bit that the fault gives the cell. It is the expected log if and only if each compared cell has
-- its expected bit.
use Rattle.std.proofs.Common.{◌≡◌, ◌↔◌, ℕ, zero, suc, ◌*◌, Bool, true, false, List, [], ◌∷◌, ◌++◌, length, map, filter, Option, Some, None, refl, sym, ◌∙◌, ap, subst}
use Rattle.std.specs.Prelude.{slice_get, unwrap_or, All}
use Rattle.std.proofs.lemmas.Bool.{and_parts, and_from}
use Rattle.std.proofs.lemmas.List.{map-append}
use Rattle.std.proofs.lemmas.Option.{slice_get_within, get_or_from_slice_get}
use Rattle.board_defs.specs.declared.device.RawDevice.{RawDevice}
use Rattle.board_defs.specs.declared.board.Ctl.{Ctl}
use Rattle.board_defs.specs.declared.board.PartKind.{PartKind}
use Rattle.board_defs.specs.declared.board.PartKind.TheVariants.{Described, Bypass as WithoutDescription}
use Rattle.board_defs.specs.declared.board.Part.{Part}
use Rattle.board_defs.specs.declared.board.RawBoard.{RawBoard}
use Rattle.board_defs.specs.declared.fault.Single.{Single}
use Rattle.board_defs.specs.BoardRules.{IsBoard}
use Rattle.board_defs.specs.Pins.{data_bits}
use Rattle.board_defs.specs.Faults.{IsSingle}
use Rattle.board_defs.specs.Passes.{ArePasses}
use Rattle.tap_defs.specs.chain.Run.{Choice, bit_passes}
use Rattle.tap_defs.specs.chain.Scan.{ScanBit, Scan, joined, tdo_bits}
use Rattle.tap_defs.specs.chain.Transport.{scan_passes}
use Rattle.tap_defs.specs.board.FaultSet.{FaultSet}
use Rattle.tap_defs.specs.board.TestRows.{code_row, expect_bit}
use Rattle.tap_defs.specs.board.BoardScans.{RowScan, row_bits, scan_of_row, board_scans, row_scans}
use Rattle.tap_defs.specs.board.RowCaptures.{row_states, AgreeAt, AgreeWhereCompared}
use Rattle.tap_defs.specs.board.Explaining.{set_of, is_compared, compared_scans, HasShape, ExplainedBy, are_expected, IsExpected, AreInTurn, IsCapturedBy, ShowsBits}
use Rattle.tap_defs.specs.board.SingleBits.{single_bit}
use Rattle.tap_defs.proofs.chain.ListLemmas.{cons_path, map-filled}
use Rattle.tap_defs.proofs.board.LogLemmas.{statements_compared, rows_counted}
use Rattle.tap_defs.proofs.board.ComparedLemmas.{passes_compare}
use Rattle.tap_defs.proofs.board.ResponseLogLemmas.{explained_by_rows}
use Rattle.tap_defs.proofs.board.CellPlaceLemmas.{part_laid, laid, scan_cell, other_bit, bits_laid, captured_cell, captured_laid, cells_of_agreement, agreement_of_cells}
use Rattle.tap_defs.proofs.board.SingleBitLemmas.{cell_value}

row_long : (board : RawBoard) (scans : List RowScan) (log : List (List Bool))
    → HasShape board scans log → (x : ℕ) (logged : List Bool) → slice_get log x ≡ Some logged →
    length logged ≡ data_bits board
row_long board scans log shape x logged f =
    sym (ap (λ (row : List Bool). length row) (get_or_from_slice_get log x logged [] f)) ∙ shape.bits x [] (slice_get_within log x logged f)

module _ (board : RawBoard) (rules : IsBoard board) (single : Single)
    (is_single : IsSingle board single) (scans : List RowScan) (turn : AreInTurn board scans)
    (log : List (List Bool)) where
  abbrev faults : FaultSet
  faults = set_of single

  abbrev cell_of : RowScan → Choice → ℕ → RawDevice → ℕ → Bool
  cell_of scan choice part device cell = captured_cell board faults (row_states board scan.before) choice part device cell

  abbrev some_choice : Choice
  some_choice =
      record {
        parts = λ k. record
            { ir = λ i. false; cells = λ i. false; latches = λ i. false; tdo = false; other = false };
        shorts = λ k. false;
        tdi = false;
      }

  shows : HasShape board scans log → IsCapturedBy board faults scans log → ShowsBits board scans (single_bit board single) log
  shows shape h x scan logged part device cell place expected e f c =
      cells_of_agreement board scan (cell_of scan some_choice) logged (row_long board scans log shape x logged f)
      (subst (λ (cap : List Bool). AgreeWhereCompared (joined (row_bits board scan)) logged cap)
      (captured_laid board faults scan.before some_choice) (h x scan logged some_choice e f))
      part device cell place expected c
      ∙ ap (λ (b : Bool). Some b)
      (cell_value board rules scan.before (turn.safe x scan e) single is_single part device cell
      place expected c some_choice)

  captures : ShowsBits board scans (single_bit board single) log → IsCapturedBy board faults scans log
  captures h x scan logged choice e f =
      subst (λ (cap : List Bool). AgreeWhereCompared (joined (row_bits board scan)) logged cap)
      (sym (captured_laid board faults scan.before choice))
      (agreement_of_cells board scan (cell_of scan choice) logged
      (λ part device cell place expected c.
      h x scan logged part device cell place expected e f c
      ∙ ap (λ (b : Bool). Some b)
      (sym
      (cell_value board rules scan.before (turn.safe x scan e) single is_single part device cell
      place expected c choice))))

  pub single_explains : ExplainedBy board faults scans log
      ↔ (HasShape board scans log × ShowsBits board scans (single_bit board single) log)
  single_explains =
      let by_rows = explained_by_rows board rules faults scans turn.follow log in (
        λ h. let r = by_rows.0 h in (r.0, shows r.0 r.1),
        λ h. by_rows.1 (h.0, captures h.1),
      )

agree_expected : (bits : List ScanBit) (row : List Bool) → scan_passes bits row ≡ true → AgreeWhereCompared bits row (tdo_bits bits)
agree_expected [] row e = tt
agree_expected (b ∷ bits) [] e = tt
agree_expected (b ∷ bits) (r ∷ row) e =
    let p = and_parts (bit_passes b.expect r) (scan_passes bits row) e in
    (here b.expect r p.0, agree_expected bits row p.1)
  where
    here : (o : Option Bool) (r : Bool) → bit_passes o r ≡ true → AgreeAt o r (unwrap_or o false)
    here None r h = tt
    here (Some true) true h = refl
    here (Some true) false h = cc h
    here (Some false) true h = cc h
    here (Some false) false h = refl

expected_passes : (bits : List ScanBit) (row : List Bool) → AgreeWhereCompared bits row (tdo_bits bits) → scan_passes bits row ≡ true
expected_passes [] row h = refl
expected_passes (b ∷ bits) [] h = refl
expected_passes (b ∷ bits) (r ∷ row) h =
    and_from (bit_passes b.expect r) (scan_passes bits row) (here b.expect r h.0)
    (expected_passes bits row h.1)
  where
    here : (o : Option Bool) (r : Bool) → AgreeAt o r (unwrap_or o false) → bit_passes o r ≡ true
    here None r h = refl
    here (Some true) true h = refl
    here (Some true) false h = cc h
    here (Some false) true h = cc h
    here (Some false) false h = refl

tdo_bits-joined : (bs : List (List ScanBit)) → tdo_bits (joined bs) ≡ joined (map tdo_bits bs)
tdo_bits-joined [] = refl
tdo_bits-joined (b ∷ bs) =
    map-append (λ (x : ScanBit). unwrap_or x.expect false) (joined bs) b
    ∙ ap (λ (l : List Bool). l ++ tdo_bits b) (tdo_bits-joined bs)

-- in an expected log, each row has the expected bits wherever its scan compares a bit
module _ (board : RawBoard) where
  abbrev statement : RowScan → Scan
  statement t = scan_of_row board t

  expected_each : (cs : List RowScan) (log : List (List Bool)) → are_expected (map statement cs) log ≡ true →
      (x : ℕ) (scan : RowScan) (logged : List Bool) → slice_get cs x ≡ Some scan
      → slice_get log x ≡ Some logged → scan_passes (joined (row_bits board scan)) logged ≡ true
  expected_each [] log h x scan logged e f = cc e
  expected_each (t ∷ cs) [] h x scan logged e f = cc f
  expected_each (t ∷ cs) (r ∷ log) h zero scan logged e f =
      let same : t ≡ scan = cc e in
      let row : r ≡ logged = cc f in
      let both = and_parts (scan_passes (joined (row_bits board t)) r) (are_expected (map statement cs) log) h in
      sym (ap (λ (u : RowScan). scan_passes (joined (row_bits board u)) logged) same)
      ∙ sym (ap (λ (l : List Bool). scan_passes (joined (row_bits board t)) l) row) ∙ both.0
  expected_each (t ∷ cs) (r ∷ log) h (suc x) scan logged e f =
      expected_each cs log
      (and_parts (scan_passes (joined (row_bits board t)) r)
      (are_expected (map statement cs) log) h).1 x scan logged e f

  all_expected : (cs : List RowScan) (log : List (List Bool)) →
      ((x : ℕ) (scan : RowScan) (logged : List Bool) → slice_get cs x ≡ Some scan
      → slice_get log x ≡ Some logged
      → scan_passes (joined (row_bits board scan)) logged ≡ true) →
      are_expected (map statement cs) log ≡ true
  all_expected [] log h = refl
  all_expected (t ∷ cs) [] h = refl
  all_expected (t ∷ cs) (r ∷ log) h =
      and_from (scan_passes (joined (row_bits board t)) r) (are_expected (map statement cs) log)
      (h 0 t r refl refl) (all_expected cs log (λ x. h (suc x)))

  abbrev expected_cell : RowScan → ℕ → RawDevice → ℕ → Bool
  expected_cell t part device cell = unwrap_or (expect_bit board t.before part device cell) false

  tdo_laid : (t : RowScan) (k : ℕ) (ps : List Part)
      → map tdo_bits (laid (scan_cell board t) other_bit k ps) ≡ laid (expected_cell t) false k ps
  tdo_laid t k [] = refl
  tdo_laid t k (p ∷ ps) = cons_path (one p.kind) (tdo_laid t (suc k) ps)
    where
      one : (kind : PartKind) → tdo_bits (part_laid (scan_cell board t) other_bit k kind) ≡ part_laid (expected_cell t) false k kind
      one (Described device) =
          map-filled (λ (b : ScanBit). unwrap_or b.expect false) device.boundary
          (λ cell. scan_cell board t k device cell)
      one (WithoutDescription n) = refl

  expected_laid : (t : RowScan) → tdo_bits (joined (row_bits board t)) ≡ joined (laid (expected_cell t) false 0 board.chain)
  expected_laid t =
      tdo_bits-joined (row_bits board t)
      ∙ ap (λ (bs : List (List ScanBit)). joined (map tdo_bits bs)) (bits_laid board t 0 board.chain)
      ∙ ap (λ (rs : List (List Bool)). joined rs) (tdo_laid t 0 board.chain)

  module _ (scans : List RowScan) (log : List (List Bool)) where
    abbrev Expected : Type 0
    Expected = ShowsBits board scans (λ row place expected. expected) log

    expected_shows : IsExpected board scans log → Expected
    expected_shows h x scan logged part device cell place expected e f c =
        let passes = expected_each (compared_scans board scans) log
        (sym (ap (λ (l : List Scan). are_expected l log) (statements_compared board scans))
        ∙ h.bits) x scan logged e f in
        cells_of_agreement board scan (expected_cell scan) logged (row_long board scans log h.shape x logged f)
        (subst
        (λ (given : List Bool). AgreeWhereCompared (joined (row_bits board scan)) logged given)
        (expected_laid scan) (agree_expected (joined (row_bits board scan)) logged passes))
        part device cell place expected c
        ∙ ap (λ (o : Option Bool). Some (unwrap_or o false)) c.expects

    shows_expected : Expected → are_expected (filter is_compared (board_scans board scans)) log ≡ true
    shows_expected h =
        ap (λ (l : List Scan). are_expected l log) (statements_compared board scans)
        ∙ all_expected (compared_scans board scans) log
        (λ x scan logged e f. expected_passes (joined (row_bits board scan)) logged
        (subst (λ (given : List Bool). AgreeWhereCompared (joined (row_bits board scan)) logged given) (sym (expected_laid scan))
        (agreement_of_cells board scan (expected_cell scan) logged
        (λ part device cell place expected c. h x scan logged part device cell place expected e f c
        ∙ sym (ap (λ (o : Option Bool). Some (unwrap_or o false)) c.expects)))))

    pub expected_bits : IsExpected board scans log ↔ (HasShape board scans log × Expected)
    expected_bits = (λ h. (h.shape, expected_shows h), λ h. record { shape = h.0; bits = shows_expected h.1 })

pub passes_shape : (board : RawBoard) (passes : List (List Ctl)) (width : ℕ)
    (log : List (List Bool)) → IsBoard board → ArePasses board passes →
    HasShape board (row_scans (code_row board passes) width passes) log
    ↔ ((length log ≡ length passes * width) × All (λ row. length row ≡ data_bits board) log)
passes_shape board passes width log rules are =
    let scans : List RowScan = row_scans (code_row board passes) width passes in
    let count = rows_counted board scans ∙ (passes_compare board passes width rules are).count in
    (λ h. (h.rows ∙ count, h.bits), λ h. record { rows = h.0 ∙ sym count; bits = h.1 })
