-- Proofs that rows filled from a plan's tables hold the plan's scan.
use Rattle.std.proofs.Common.{◌≡◌, ℕ, suc, ◌+◌, ◌*◌, ◌<◌, ◌≤◌, Bool, true, false, cond, List, [], ◌++◌, length, get_or, set, replicate, Option, Some, is_some, unwrap_or, sym, ap, ◌∙◌, subst, arith}
use Rattle.std.specs.Prelude.{slice_get, All}
use Rattle.std.specs.List.{list_any}
use Rattle.std.proofs.lemmas.Bool.{lt-ltb}
use Rattle.std.proofs.lemmas.List.{length-map, length-replicate}
use Rattle.std.proofs.lemmas.List.Sums.{fold-append}
use Rattle.std.proofs.lemmas.Option.{slice_get-get_or, get_or_from_slice_get}
use Rattle.board_defs.specs.Limits.{most_bits}
use Rattle.board_defs.specs.declared.board.RawBoard.{RawBoard}
use Rattle.board_defs.specs.declared.board.Ctl.{Ctl}
use Rattle.board_defs.specs.BoardRules.{IsBoard}
use Rattle.board_defs.specs.Pins.{device_at, cell_count, data_bits, instruction_bits}
use Rattle.board_defs.specs.Settings.{holds}
use Rattle.board_defs.proofs.Members.{Has, contains_has, has_contains}
use Rattle.board_defs.proofs.Places.{any_at}
use Rattle.tap_defs.specs.declared.scan.ScanRows.{ScanRows}
use Rattle.tap_defs.specs.declared.scan.Shape.{Shape}
use Rattle.tap_defs.specs.declared.scan.StoredRows.{StoredRows}
use Rattle.tap_defs.specs.chain.Scan.{ScanBit, Scan, joined, tdi_bits, tdo_bits, mask_bits, scan_bits}
use Rattle.tap_defs.specs.chain.ScanRows.{AreBitsOf, AreRowsOf, EachHasRoom, HaveRoomFor}
use Rattle.tap_defs.specs.board.TestRows.{TestRow, quiet_row, code_row, code_of_net, code_bit, net_code_bit, is_observed, observing_driver, row_bit, expect_bit}
use Rattle.tap_defs.specs.board.BoardScans.{RowScan, row_bits, row_now, scan_of_row, first_row_scan, test_scans}
use Rattle.tap_defs.proofs.chain.ScanRowLemmas.{rows_make, shifted_length, expected_same, marks_same, rows_masked, each_room, room_for}
use Rattle.tap_defs.proofs.board.EntryLemmas.{row_scan_some, quiet_expects}
use Rattle.tap_defs.proofs.board.ScanPlaceLemmas.{scans_placed}
use Rattle.plan_tables.specs.declared.tables.HeldCell.{HeldCell}
use Rattle.plan_tables.specs.declared.tables.DriverCell.{DriverCell}
use Rattle.net_pins.specs.declared.nets.ReaderCell.{ReaderCell}
use Rattle.plan_tables.specs.Tables.{PassCells, IsHeldCell, IsDriverCell, ArePassCells, pass_cells_of}
use Rattle.plan_tables.specs.declared.tables.PlanTables.{PlanTables}
use Rattle.plan_tables.specs.inner.Laid.{bits_of_parts, steady}
use Rattle.plan_tables.specs.Assigned.{assigned, code_bit_of_driver, set_readers, set_compared}
use Rattle.plan_tables.specs.Plans.{IsPlanOf}
use Rattle.scan_planner.specs.PassRows.{steady_compared, steady_shifted}
use Rattle.scan_planner.specs.Plans.{FillsScan, IsRoom, scan_of_pass}
use Rattle.scan_planner.specs.inner.Passes.{with_compared_bits, driven}
use Rattle.plan_tables.proofs.AssignLemmas.{length-assigned, assigned_apart}
use Rattle.plan_tables.proofs.RowLemmas.{length-set_compared}
use Rattle.plan_tables.proofs.LaidLemmas.{length-laid, laid_same, zeros_laid, tdi_laid, tdo_laid, mask_laid}
use Rattle.plan_tables.proofs.HeldLemmas.{quiet_steady, control_cells}
use Rattle.scan_planner.proofs.HeldLemmas.{held_laid}
use Rattle.scan_planner.proofs.DriverLemmas.{drivers_laid}
use Rattle.plan_tables.proofs.ReaderTableLemmas.{ReadersOf, readers_below}
use Rattle.scan_planner.proofs.ReaderLemmas.{Pair, pairs, set_compared_is, tdo_compared, mask_compared}
use Rattle.plan_tables.proofs.PassLemmas.{fold_on}
use Rattle.plan_tables.proofs.SizeLemmas.{IsSized}

pub fills : (board : RawBoard) (passes : List (List Ctl)) (width k : ℕ) (scan : Scan)
    (shape : Shape) (tdi tdo mask : List Bool)
    → slice_get (test_scans board passes width) k ≡ Some scan →
    0 < length scan.bits → length scan.bits ≤ most_bits → AreBitsOf scan.bits tdi tdo mask → shape.ir ≡ scan.ir →
    shape.compare ≡ list_any (λ bit. bit) mask → FillsScan board passes width k shape tdi tdo mask
fills board passes width k scan shape tdi tdo mask placed some most are is_ir compare =
    record {
      scan =
          placed
          ∙ sym
          (ap (λ (b : Bool). Some (record { ir = b; bits = scan_bits tdi tdo mask })) is_ir
          ∙ ap (λ (l : List ScanBit). Some (record { ir = scan.ir; bits = l }))
          (rows_make are));
      some = omega (arith, some, shifted_length are);
      most = omega (arith, most, shifted_length are);
      tdo_length = expected_same are;
      mask_length = marks_same are;
      compare = compare;
      masked = rows_masked are;
    }

pub codes_room : (board : RawBoard) (bits : List ScanBit) (stored : StoredRows) (rows : ScanRows)
    → IsSized bits (instruction_bits board) → AreRowsOf bits stored →
    EachHasRoom (IsRoom board) rows → HaveRoomFor stored rows
codes_room board bits stored rows s are each =
    room_for bits stored rows are
    (each_room (λ room is. omega (arith, s.size_is, is.instructions)) each)

pub row_sized : (board : RawBoard) → IsBoard board → (scan : RowScan) → IsSized (joined (row_bits board scan)) (data_bits board)
row_sized board rules scan =
    let size : length (joined (row_bits board scan)) ≡ data_bits board =
    sym (length-map (joined (row_bits board scan)) (λ b. b.tdi))
    ∙ ap (λ (l : List Bool). length l) (tdi_laid board scan)
    ∙ length-laid (λ part device cell. row_bit board scan.now part device cell) board in
    record { some = row_scan_some board rules scan; most = omega (arith, size, rules.data_most); size_is = size }

pub shifted_size : (board : RawBoard) (scan : RowScan) → length (tdi_bits (joined (row_bits board scan))) ≡ data_bits board
shifted_size board scan = ap length (tdi_laid board scan) ∙ length-laid (λ part device cell. row_bit board scan.now part device cell) board

pub expected_size : (board : RawBoard) (scan : RowScan) → length (tdo_bits (joined (row_bits board scan))) ≡ data_bits board
expected_size board scan =
    ap length (tdo_laid board scan)
    ∙ length-laid
    (λ part device cell. unwrap_or (expect_bit board scan.before part device cell) false) board

pub marked_size : (board : RawBoard) (scan : RowScan) → length (mask_bits (joined (row_bits board scan))) ≡ data_bits board
marked_size board scan =
    ap length (mask_laid board scan)
    ∙ length-laid (λ part device cell. is_some (expect_bit board scan.before part device cell))
    board

pub quiet_tdo : (board : RawBoard) (scan : RowScan) → scan.before ≡ quiet_row
    → replicate (data_bits board) false ≡ tdo_bits (joined (row_bits board scan))
quiet_tdo board scan e =
    zeros_laid board
    ∙ laid_same board (λ part device cell. false)
    (λ part device cell. unwrap_or (expect_bit board quiet_row part device cell) false)
    (λ part device cell. sym
    (ap (λ (o : Option Bool). unwrap_or o false) (quiet_expects board part device cell)))
    ∙ sym
    (tdo_laid board scan
    ∙ ap
    (λ (row : TestRow). bits_of_parts
    (λ part device cell. unwrap_or (expect_bit board row part device cell) false)
    board) e)

pub quiet_mask : (board : RawBoard) (scan : RowScan) → scan.before ≡ quiet_row
    → replicate (data_bits board) false ≡ mask_bits (joined (row_bits board scan))
quiet_mask board scan e =
    zeros_laid board
    ∙ laid_same board (λ part device cell. false)
    (λ part device cell. is_some (expect_bit board quiet_row part device cell))
    (λ part device cell. sym
    (ap (λ (o : Option Bool). is_some o) (quiet_expects board part device cell)))
    ∙ sym
    (mask_laid board scan
    ∙ ap
    (λ (row : TestRow). bits_of_parts
    (λ part device cell. is_some (expect_bit board row part device cell)) board) e)

module _ (board : RawBoard) (rules : IsBoard board) (plan : PlanTables) (p : IsPlanOf board plan) where
  quiet_laid : plan.quiet.bits ≡ bits_of_parts (steady board (λ c. false)) board
  quiet_laid =
      p.tables.quiet ∙ tdi_laid board first_row_scan
      ∙ laid_same board (λ part device cell. row_bit board quiet_row part device cell) (steady board (λ c. false)) (quiet_steady board)

  pub quiet_length : length plan.quiet.bits ≡ data_bits board
  quiet_length = ap (λ (l : List Bool). length l) quiet_laid ∙ length-laid (steady board (λ c. false)) board

  pub quiet_is : (scan : RowScan) → scan.now ≡ quiet_row → plan.quiet.bits ≡ tdi_bits (joined (row_bits board scan))
  quiet_is scan e =
      p.tables.quiet ∙ tdi_laid board first_row_scan
      ∙ sym (tdi_laid board scan ∙ ap (λ (row : TestRow). bits_of_parts (λ part device cell. row_bit board row part device cell) board) e)

  readers_of : ReadersOf board plan.nets.readers
  readers_of n net e =
      let t = p.tables.readers n net e in
      let same : get_or plan.nets.readers n [] ≡ t.0 = get_or_from_slice_get plan.nets.readers n t.0 [] t.1 in (
        λ r h. (t.2 r).0 (has_contains t.0 r (subst (λ (l : List ReaderCell). Has l r) same h)),
        λ r is. subst (λ (l : List ReaderCell). Has l r) (sym same) (contains_has t.0 r ((t.2 r).1 is)),
      )

  pub readers_within : All (λ cells. All (λ r. r.position < data_bits board) cells) plan.nets.readers
  readers_within = readers_below board rules plan.nets.readers readers_of p.tables.readers_length

  pub steady_shifted_length : (j : ℕ) → length (steady_shifted plan j) ≡ data_bits board
  steady_shifted_length j =
      length-assigned (λ (d : DriverCell). d.position) (code_bit_of_driver plan.codes j)
      plan.quiet.bits plan.steady ∙ quiet_length

  pub steady_compared_length : (bit : DriverCell → Bool) → length (steady_compared plan bit) ≡ data_bits board
  steady_compared_length bit =
      length-set_compared bit plan.nets.readers plan.steady
      (replicate (length plan.quiet.bits) false) ∙ length-replicate (length plan.quiet.bits) false
      ∙ quiet_length

  module _ (x : ℕ) (less : x < length plan.passes) where
    abbrev pass : List Ctl
    pass = get_or plan.passes x []

    stands : slice_get plan.passes x ≡ Some pass
    stands = slice_get-get_or plan.passes x [] less

    -- the cells of the pass
    abbrev cells : PassCells
    cells = pass_cells_of board plan.quiet.bits plan.by_control pass

    are : ArePassCells board plan.steady pass cells
    are = let t = p.tables.cells x pass stands in subst (λ (v : PassCells). ArePassCells board plan.steady pass v) t.1 t.2

    -- The cells of the drivers by which the pass observes nets. First come the steady cells, which belong to
    -- such drivers in every pass, and then the pass's other driver cells.
    abbrev all : List DriverCell
    all = plan.steady ++ cells.drivers

    held_only : (h : HeldCell) → Has cells.held h → IsHeldCell board pass h
    held_only h has = (are.held h).0 (has_contains cells.held h has)

    driver_only : (d : DriverCell) → Has all d → IsDriverCell board pass d
    driver_only d has = (are.drivers d).0 (has_contains all d has)

    every : (d : DriverCell) → IsDriverCell board pass d → Has all d
    every d is = contains_has all d ((are.drivers d).1 is)

    pub controls_there : (setting : List Ctl) → setting ≡ pass → (c : Ctl) → holds setting c ≡ true
        → c.cell < cell_count (device_at board c.part)
    controls_there setting is c on =
        control_cells board rules c
        (p.plannable.controls x pass c stands (sym (ap (λ (q : List Ctl). holds q c) is) ∙ on))

    -- in row `j`, net `n` carries bit `j` of its code
    abbrev carried : ℕ → ℕ → Option Bool
    carried j n = Some (net_code_bit board plan.passes j n)

    carries : (j : ℕ) (d : DriverCell) → Has all d → carried j d.net ≡ Some (code_bit_of_driver plan.codes j d)
    carries j d has =
        let s = driver_only d has in
        let observed : is_observed board plan.passes s.net
        ≡ true = any_at (λ (q : List Ctl). is_some (observing_driver board (holds q) s.net))
        plan.passes x pass stands (ap (λ (o : Option ℕ). is_some o) s.observing) in
        let code : get_or plan.codes d.net 0 ≡ code_of_net board plan.passes d.net =
        p.codes_are d.net s.net s.is_net ∙ ap (λ (b : Bool). cond b (code_of_net board plan.passes d.net) 0) observed in
        sym (ap (λ (n : ℕ). Some (code_bit n j)) code)

    pub shifted_is : (j : ℕ) → j < plan.width →
        driven board plan (code_bit_of_driver plan.codes j)
        (assigned (λ h. h.position) (λ h. h.bit) (steady_shifted plan j) cells.held) pass
        ≡ tdi_bits (joined (row_bits board (scan_of_pass board plan x j)))
    shifted_is j within =
        let bit : DriverCell → Bool = code_bit_of_driver plan.codes j in
        let row : row_now (code_row board plan.passes pass) plan.width j
        ≡ code_row board plan.passes pass j = ap
        (λ (t : Bool). cond t (code_row board plan.passes pass j) quiet_row)
        (lt-ltb j plan.width within) in
        fold_on board plan.quiet.bits plan.by_control pass
        (λ bits (d : DriverCell). set bits d.position (bit d))
        (assigned (λ h. h.position) (λ h. h.bit) (steady_shifted plan j) cells.held)
        ∙ ap (λ (l : List Bool). assigned (λ d. d.position) bit l cells.drivers)
        (assigned_apart (λ (h : HeldCell). h.position) (λ h. h.bit) (λ (d : DriverCell). d.position)
        bit plan.quiet.bits cells.held plan.steady
        (λ h d in_held in_steady. are.apart h d (has_contains cells.held h in_held) (has_contains plan.steady d in_steady)))
        ∙ sym
        (fold-append (λ bits (d : DriverCell). set bits d.position (bit d))
        (assigned (λ h. h.position) (λ h. h.bit) plan.quiet.bits cells.held) plan.steady
        cells.drivers)
        ∙ ap (λ (l : List Bool). assigned (λ d. d.position) bit (assigned (λ h. h.position) (λ h. h.bit) l cells.held) all) quiet_laid
        ∙ ap (λ (l : List Bool). assigned (λ d. d.position) bit l all)
        (held_laid board rules pass (λ c has. p.plannable.controls x pass c stands has) cells.held
        held_only (λ h is. contains_has cells.held h ((are.held h).1 is)))
        ∙ drivers_laid board rules pass (carried j) bit all driver_only every (carries j)
        ∙ sym
        (tdi_laid board (scan_of_pass board plan x j)
        ∙ ap
        (λ (row : TestRow). bits_of_parts
        (λ part device cell. row_bit board row part device cell) board) row)

    compared_is : (bit : DriverCell → Bool) →
        with_compared_bits board plan bit (steady_compared plan bit) pass
        ≡ assigned (λ (x : Pair). x.1.position) (λ x. bit x.0)
        (bits_of_parts (λ part device cell. false) board) (pairs plan.nets.readers all)
    compared_is bit =
        fold_on board plan.quiet.bits plan.by_control pass
        (λ done (d : DriverCell). set_readers d.place (bit d) done
        (get_or plan.nets.readers d.net [])) (steady_compared plan bit)
        ∙ sym
        (fold-append
        (λ done (d : DriverCell). set_readers d.place (bit d) done
        (get_or plan.nets.readers d.net [])) (replicate (length plan.quiet.bits) false)
        plan.steady cells.drivers)
        ∙ ap (λ (l : List Bool). set_compared bit plan.nets.readers l all) (ap (λ n. replicate n false) quiet_length ∙ zeros_laid board)
        ∙ set_compared_is bit plan.nets.readers all (bits_of_parts (λ part device cell. false) board)

    pub expected_is : (j : ℕ)
        → with_compared_bits board plan (code_bit_of_driver plan.codes j)
        (steady_compared plan (code_bit_of_driver plan.codes j)) pass
        ≡ tdo_bits (joined (row_bits board (scan_of_pass board plan x (suc j))))
    expected_is j =
        compared_is (code_bit_of_driver plan.codes j)
        ∙ tdo_compared board rules pass (carried j) (code_bit_of_driver plan.codes j) all
        driver_only every (carries j) plan.nets.readers readers_of
        ∙ sym (tdo_laid board (scan_of_pass board plan x (suc j)))

    pub mask_is : (j : ℕ)
        → with_compared_bits board plan (λ d. true) (steady_compared plan (λ d. true)) pass
        ≡ mask_bits (joined (row_bits board (scan_of_pass board plan x (suc j))))
    mask_is j =
        compared_is (λ d. true)
        ∙ mask_compared board rules pass (carried j) (code_bit_of_driver plan.codes j) all
        driver_only every (carries j) plan.nets.readers readers_of
        ∙ sym (mask_laid board (scan_of_pass board plan x (suc j)))

    pub fills_row : (j : ℕ) → j ≤ plan.width → (shape : Shape) (tdi tdo mask : List Bool) → shape.ir ≡ false →
        AreBitsOf (joined (row_bits board (scan_of_pass board plan x j))) tdi tdo mask → shape.compare ≡ list_any (λ bit. bit) mask →
        FillsScan board plan.passes plan.width (3 + (x * suc plan.width + j)) shape tdi tdo mask
    fills_row j within shape tdi tdo mask of_row are compare =
        let s = row_sized board rules (scan_of_pass board plan x j) in
        fills board plan.passes plan.width (3 + (x * suc plan.width + j))
        (scan_of_row board (scan_of_pass board plan x j)) shape tdi tdo mask
        ((scans_placed board plan.passes plan.width).rows x pass j stands within) s.some s.most are of_row compare
