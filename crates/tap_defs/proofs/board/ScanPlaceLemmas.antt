-- The index of each scan in the list of a test's scans.
use Rattle.std.proofs.Common.{◌≡◌, ℕ, zero, suc, ◌+◌, ◌*◌, ◌<◌, ◌≤◌, Bool, true, false, cond, List, [], ◌∷◌, ◌++◌, length, Option, Some, refl, sym, ◌∙◌, ap, arith, length-append}
use Rattle.std.specs.Prelude.{nat_lt, slice_get, option_map}
use Rattle.std.proofs.lemmas.List.{length-map}
use Rattle.std.proofs.lemmas.Option.{slice_get-map}
use Rattle.std.proofs.lemmas.Bool.{lt-ltb, le-ltb}
use Rattle.board_defs.specs.declared.board.Ctl.{Ctl}
use Rattle.board_defs.specs.declared.board.RawBoard.{RawBoard}
use Rattle.tap_defs.specs.board.TestRows.{TestRow, quiet_row, code_row}
use Rattle.tap_defs.specs.board.BoardScans.{RowScan, scan_of_row, pass_scans, row_scans, row_now, row_before, test_scans, AreTestScans}

pub length-pass_scans : (rows : ℕ → TestRow) (more j : ℕ) (before : TestRow) → length (pass_scans rows more j before) ≡ suc more
length-pass_scans rows zero j before = refl
length-pass_scans rows (suc more) j before = ap suc (length-pass_scans rows more (suc j) (rows j))

length-row_scans : (rows : List Ctl → ℕ → TestRow) (width : ℕ) (passes : List (List Ctl)) →
    length (row_scans rows width passes) ≡ length passes * suc width
length-row_scans rows width [] = omega arith
length-row_scans rows width (pass ∷ passes) =
    omega (
      arith,
      length-append (pass_scans (rows pass) width 0 quiet_row) (row_scans rows width passes),
      length-pass_scans (rows pass) width 0 quiet_row,
      length-row_scans rows width passes,
    )

pub front_at : {A : Type 0} (xs ys : List A) (i : ℕ) → i < length xs → slice_get (xs ++ ys) i ≡ slice_get xs i
front_at [] ys i h = absurd (omega (arith, h))
front_at (x ∷ xs) ys zero h = refl
front_at (x ∷ xs) ys (suc i) h = front_at xs ys i (omega (arith, h))

pub rest_at : {A : Type 0} (xs ys : List A) (i k : ℕ) → k ≡ length xs + i → slice_get (xs ++ ys) k ≡ slice_get ys i
rest_at [] ys i k e = let z : k ≡ i = omega (arith, e) in ap (λ (n : ℕ). slice_get ys n) z
rest_at (x ∷ xs) ys i zero e = absurd (omega (arith, e))
rest_at (x ∷ xs) ys i (suc k) e = rest_at xs ys i k (omega (arith, e))

abbrev placed : (ℕ → TestRow) → ℕ → ℕ → RowScan
placed rows width k = record { now = row_now rows width k; before = row_before rows k }

-- Scan `i` of the scans that remain from row `j` on is scan `j + i` of the pass.
pub pass_scan_at : (rows : ℕ → TestRow) (width more j i k : ℕ) (before : TestRow)
    → before ≡ row_before rows j → width ≡ j + more → k ≡ j + i →
    i ≤ more →
    slice_get (pass_scans rows more j before) i ≡ Some (placed rows width k)
pass_scan_at rows width zero j zero k before e w z h =
    let same : j ≡ k = omega (arith, z) in
    let past : nat_lt k width ≡ false = le-ltb k width (omega (arith, w, z)) in
    ap (λ (b : TestRow). Some (record { now = quiet_row; before = b })) (e ∙ ap (λ (n : ℕ). row_before rows n) same)
    ∙ sym (ap (λ (t : Bool). Some (record { now = cond t (rows k) quiet_row; before = row_before rows k })) past)
pass_scan_at rows width zero j (suc i) k before e w z h = absurd (omega (arith, h))
pass_scan_at rows width (suc more) j zero k before e w z h =
    let same : j ≡ k = omega (arith, z) in
    let within : nat_lt k width ≡ true = lt-ltb k width (omega (arith, w, z)) in
    ap (λ (b : TestRow). Some (record { now = rows j; before = b })) e
    ∙ ap (λ (n : ℕ). Some (record { now = rows n; before = row_before rows n })) same
    ∙ sym (ap (λ (t : Bool). Some (record { now = cond t (rows k) quiet_row; before = row_before rows k })) within)
pass_scan_at rows width (suc more) j (suc i) k before e w z h =
    pass_scan_at rows width more (suc j) i k (rows j) refl (omega (arith, w)) (omega (arith, z)) (omega (arith, h))

row_scan_at : (rows : List Ctl → ℕ → TestRow) (width : ℕ) (passes : List (List Ctl)) (x : ℕ) (pass : List Ctl) (j k : ℕ) →
    slice_get passes x ≡ Some pass → j ≤ width →
    k ≡ x * suc width + j → slice_get (row_scans rows width passes) k ≡ Some (placed (rows pass) width j)
row_scan_at rows width [] x pass j k e h z = cc e
row_scan_at rows width (p ∷ passes) zero pass j k e h z =
    let same : p ≡ pass = cc e in
    let index : k ≡ j = omega (arith, z) in
    front_at (pass_scans (rows p) width 0 quiet_row) (row_scans rows width passes) k
    (omega (arith, length-pass_scans (rows p) width 0 quiet_row, index, h))
    ∙ ap (λ (q : List Ctl). slice_get (pass_scans (rows q) width 0 quiet_row) k) same
    ∙ pass_scan_at (rows pass) width width 0 k j quiet_row refl (omega arith) (omega (arith, index)) (omega (arith, index, h))
row_scan_at rows width (p ∷ passes) (suc x) pass j k e h z =
    rest_at (pass_scans (rows p) width 0 quiet_row) (row_scans rows width passes) (x * suc width + j) k
    (omega (arith, length-pass_scans (rows p) width 0 quiet_row, z))
    ∙ row_scan_at rows width passes x pass j (x * suc width + j) e h refl

pub scans_placed : (board : RawBoard) (passes : List (List Ctl)) (width : ℕ) →
    AreTestScans board passes width (test_scans board passes width)
scans_placed board passes width =
    let scans : List RowScan = row_scans (code_row board passes) width passes in
    record {
      count = omega (arith, length-map scans (scan_of_row board), length-row_scans (code_row board passes) width passes);
      preload = refl;
      quiet = refl;
      extest = refl;
      rows = λ x pass j e h.
          let k : ℕ = x * suc width + j in
          let three : 3 + k ≡ suc (suc (suc k)) = omega arith in
          ap (λ (n : ℕ). slice_get (test_scans board passes width) n) three
          ∙ slice_get-map (scan_of_row board) scans k
          ∙ ap (λ (o : Option RowScan). option_map (scan_of_row board) o)
          (row_scan_at (code_row board passes) width passes x pass j k e h refl);
    }
