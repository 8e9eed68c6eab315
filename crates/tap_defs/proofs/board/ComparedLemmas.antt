-- A data scan of a test compares some bit if and only if it compares a row of a pass that observes a net.
use Rattle.std.proofs.Common.{◌≡◌, inl, inr, ℕ, zero, suc, ◌+◌, ◌*◌, ◌<◌, Bool, true, false, cond, ◌||◌, ◌==◌, List, [], ◌∷◌, ◌++◌, length, filter, drop, take, Option, Some, None, refl, sym, ◌∙◌, ap, subst, arith, length-append}
use Rattle.std.specs.Prelude.{is_some, slice_get, count_by}
use Rattle.std.specs.List.{list_any, flat_map}
use Rattle.std.proofs.lemmas.Bool.{both_ways, false_from_ne_true, or_right}
use Rattle.std.proofs.lemmas.List.{length-drop}
use Rattle.std.proofs.lemmas.List.Elements.{filter-append}
use Rattle.std.proofs.lemmas.List.Folds.{list_any-append}
use Rattle.std.proofs.lemmas.List.Sums.{length-filter}
use Rattle.board_defs.specs.declared.device.Cell.{Cell}
use Rattle.board_defs.specs.declared.device.RawDevice.{RawDevice}
use Rattle.board_defs.specs.declared.board.PinAt.{PinAt}
use Rattle.board_defs.specs.declared.board.PartKind.{PartKind}
use Rattle.board_defs.specs.declared.board.PartKind.TheVariants.{Described, Bypass as WithoutDescription}
use Rattle.board_defs.specs.declared.board.Part.{Part}
use Rattle.board_defs.specs.declared.board.Net.{Net}
use Rattle.board_defs.specs.declared.board.Ctl.{Ctl}
use Rattle.board_defs.specs.declared.board.RawBoard.{RawBoard}
use Rattle.board_defs.specs.BoardRules.{IsBoard}
use Rattle.board_defs.specs.DeviceRules.{is_receiving, reading_entry}
use Rattle.board_defs.specs.Pins.{receives_where}
use Rattle.board_defs.specs.Settings.{Enabling, holds}
use Rattle.board_defs.specs.Passes.{ArePasses, EnablesNew, ObservesNew}
use Rattle.board_defs.proofs.Places.{Found, any_at, any_place}
use Rattle.tap_defs.specs.chain.ShiftRegister.{filled}
use Rattle.tap_defs.specs.chain.Scan.{ScanBit, joined, compares}
use Rattle.tap_defs.specs.board.NetBits.{Place, place_of}
use Rattle.tap_defs.specs.board.TestRows.{TestRow, quiet_row, code_row, net_code_bit, observing_driver, row_bit, expect_observed, expect_place, expect_pin, expect_entry, expect_bit}
use Rattle.tap_defs.specs.board.BoardScans.{RowScan, part_bits, bits_by_part, row_bits, scan_of_row, pass_scans, row_scans, row_now, is_walked, observes_some, walk_row, walk_row_scans}
use Rattle.tap_defs.specs.board.Explaining.{is_compared, compared_scans, CompareRows}
use Rattle.tap_defs.proofs.chain.ListLemmas.{cons_path}
use Rattle.tap_defs.proofs.chain.ScanLemmas.{filled_at}
use Rattle.tap_defs.proofs.board.PassingLemmas.{stands_at}
use Rattle.tap_defs.proofs.board.EntryLemmas.{AllSilent, silent_append, silent_made, quiet_silent}
use Rattle.tap_defs.proofs.board.WrongLemmas.{Compared, expects, bits_at}
use Rattle.tap_defs.proofs.board.ReadingLemmas.{compared}
use Rattle.tap_defs.proofs.board.NetRuleLemmas.{all_read, net_rules}
use Rattle.tap_defs.proofs.board.PlanLemmas.{observing_is}
use Rattle.tap_defs.proofs.board.CaptureLemmas.{silent_compares}
use Rattle.tap_defs.proofs.board.ScanPlaceLemmas.{length-pass_scans, front_at, rest_at, pass_scan_at}

any_joined : (bs : List (List ScanBit)) (k : ℕ) (b : List ScanBit) → slice_get bs k ≡ Some b
    → compares b ≡ true → compares (joined bs) ≡ true
any_joined [] k b e h = cc e
any_joined (a ∷ bs) zero b e h =
    let same : a ≡ b = cc e in
    list_any-append (λ x. is_some x.expect) (joined bs) a
    ∙ or_right (compares (joined bs)) (compares a) (ap (λ (x : List ScanBit). compares x) same ∙ h)
any_joined (a ∷ bs) (suc k) b e h =
    list_any-append (λ x. is_some x.expect) (joined bs) a
    ∙ ap (λ (x : Bool). x || compares a) (any_joined bs k b e h)

module _ (board : RawBoard) (rules : IsBoard board) where
  pub row_compares : (now row : TestRow) (n : ℕ) (net : Net) (d : ℕ) (v : Bool) → slice_get board.nets n ≡ Some net →
      observing_driver board row.setting net ≡ Some d → row.carried n ≡ Some v
      → compares (joined (row_bits board (record { now = now; before = row }))) ≡ true
  row_compares now row n net d v en observing carried =
      let t : RowScan = record { now = now; before = row } in
      let c : Compared board row.setting n net = compared board row.setting n net d
      (all_read board rules) (net_rules board rules n net en) observing in
      let cells : ℕ → ScanBit = λ x. record { tdi = row_bit board now c.k c.device x; expect = expect_bit board row c.k c.device x } in
      let zero_more : 0 + c.k ≡ c.k = omega arith in
      let stands : slice_get (row_bits board t) c.k ≡ Some (filled c.device.boundary cells) =
      bits_at board t 0 board.chain c.k c.part c.at_k
      ∙ ap (λ (i : ℕ). Some (part_bits board t i c.part.kind)) zero_more
      ∙ ap (λ (kind : PartKind). Some (part_bits board t c.k kind)) c.device_is in
      any_joined (row_bits board t) c.k (filled c.device.boundary cells) stands
      (any_at (λ x. is_some x.expect) (filled c.device.boundary cells) c.cell (cells c.cell)
      (filled_at c.device.boundary cells c.cell c.below)
      (ap (λ (o : Option Bool). is_some o) (expects board row n net c ∙ carried)))

-- if a row observes no net, no cell is compared in it
module _ (board : RawBoard) (now row : TestRow)
    (none : (n : ℕ) (net : Net) → slice_get board.nets n ≡ Some net
    → observing_driver board row.setting net ≡ None) where
  expects_nothing : (k : ℕ) (device : RawDevice) (cell : ℕ) → expect_bit board row k device cell ≡ None
  expects_nothing k device cell = by_entry (reading_entry device cell)
    where
      cond_none : (b : Bool) (o : Option Bool) → o ≡ None → cond b o None ≡ None
      cond_none true o e = e
      cond_none false o e = refl

      by_place : (at : PinAt) (o : Option Place) → place_of at 0 board.nets ≡ o → expect_place board row o ≡ None
      by_place at None e = refl
      by_place at (Some p) e =
          let s = stands_at board at p 0 board.nets e in
          ap (λ (o : Option ℕ). expect_observed (row.carried p.number) p.place o) (none s.index p.net s.net_is)

      by_pin : (o : Option ℕ) → expect_pin board row k o ≡ None
      by_pin None = refl
      by_pin (Some b) =
          let at : PinAt = record { part = k; bit = b } in
          cond_none (receives_where board (Some at))
          (expect_place board row (place_of at 0 board.nets))
          (by_place at (place_of at 0 board.nets) refl)

      by_entry : (o : Option Cell) → expect_entry board row k o ≡ None
      by_entry None = refl
      by_entry (Some e) = cond_none (is_receiving e.role) (expect_pin board row k e.bit) (by_pin e.bit)

  silent_parts : (k : ℕ) (ps : List Part) → AllSilent (joined (bits_by_part board (record { now = now; before = row }) k ps))
  silent_parts k [] = tt
  silent_parts k (p ∷ ps) =
      silent_append (joined (bits_by_part board (record { now = now; before = row }) (suc k) ps))
      (part_bits board (record { now = now; before = row }) k p.kind) (silent_parts (suc k) ps)
      (one p.kind)
    where
      one : (kind : PartKind) → AllSilent (part_bits board (record { now = now; before = row }) k kind)
      one (Described device) =
          silent_made device.boundary
          (λ cell. record
          { tdi = row_bit board now k device cell; expect = expect_bit board row k device cell })
          (expects_nothing k device)
      one (WithoutDescription n) = (refl, tt)

  pub row_silent : compares (joined (row_bits board (record { now = now; before = row }))) ≡ false
  row_silent = silent_compares (joined (row_bits board (record { now = now; before = row }))) (silent_parts 0 board.chain)

filter_none : {A : Type 0} (p : A → Bool) (xs : List A) → ((i : ℕ) (x : A) → slice_get xs i ≡ Some x → p x ≡ false) → filter p xs ≡ []
filter_none p [] h = refl
filter_none p (x ∷ xs) h =
    ap (λ (b : Bool). cond b (x ∷ filter p xs) (filter p xs)) (h 0 x refl) ∙ filter_none p xs (λ i. h (suc i))

filter_all : {A : Type 0} (p : A → Bool) (xs : List A) → ((i : ℕ) (x : A) → slice_get xs i ≡ Some x → p x ≡ true) → filter p xs ≡ xs
filter_all p [] h = refl
filter_all p (x ∷ xs) h =
    ap (λ (b : Bool). cond b (x ∷ filter p xs) (filter p xs)) (h 0 x refl) ∙ cons_path refl (filter_all p xs (λ i. h (suc i)))

-- The scans of a pass without its first scan. The first scan compares the quiet row, and the others compare the rows of
-- the pass.
abbrev pub compared_in : (ℕ → TestRow) → ℕ → List RowScan
compared_in rows width = drop 1 (pass_scans rows width 0 quiet_row)

after_first : {A : Type 0} (xs : List A) (i : ℕ) → slice_get (drop 1 xs) i ≡ slice_get xs (suc i)
after_first [] i = refl
after_first (x ∷ xs) i = refl

length-compared_in : (rows : ℕ → TestRow) (width : ℕ) → length (compared_in rows width) ≡ width
length-compared_in rows width =
    omega (arith, length-drop 1 (pass_scans rows width 0 quiet_row), length-pass_scans rows width 0 quiet_row)

compared_in_at : (rows : ℕ → TestRow) (width j : ℕ) → j < width →
    slice_get (compared_in rows width) j ≡ Some (record { now = row_now rows width (suc j); before = rows j })
compared_in_at rows width j h =
    after_first (pass_scans rows width 0 quiet_row) j
    ∙ pass_scan_at rows width width 0 (suc j) (suc j) quiet_row refl (omega arith) (omega arith) (omega (arith, h))

-- Without the first scan of each pass, the scans of all passes compare the rows of the passes.
gathered : (rows : List Ctl → ℕ → TestRow) (width : ℕ) (passes : List (List Ctl)) →
    CompareRows rows width passes (flat_map (λ pass. compared_in (rows pass) width) passes)
gathered rows width passes = record { count = count passes; each = λ x pass j e h. each passes x pass j (x * width + j) e h refl }
  where
    count : (ps : List (List Ctl)) → length (flat_map (λ pass. compared_in (rows pass) width) ps) ≡ length ps * width
    count [] = omega arith
    count (p ∷ ps) =
        omega (
          arith,
          length-append (compared_in (rows p) width)
              (flat_map (λ pass. compared_in (rows pass) width) ps),
          length-compared_in (rows p) width,
          count ps,
        )

    each : (ps : List (List Ctl)) (x : ℕ) (pass : List Ctl) (j k : ℕ) → slice_get ps x ≡ Some pass → j < width → k ≡ x * width + j →
        slice_get (flat_map (λ pass. compared_in (rows pass) width) ps) k
        ≡ Some (record { now = row_now (rows pass) width (suc j); before = rows pass j })
    each [] x pass j k e h z = cc e
    each (p ∷ ps) zero pass j k e h z =
        let same : p ≡ pass = cc e in
        let index : k ≡ j = omega (arith, z) in
        ap (λ (i : ℕ). slice_get (compared_in (rows p) width ++ flat_map (λ q. compared_in (rows q) width) ps) i) index
        ∙ front_at (compared_in (rows p) width) (flat_map (λ q. compared_in (rows q) width) ps) j
        (omega (arith, length-compared_in (rows p) width, h))
        ∙ ap (λ (q : List Ctl). slice_get (compared_in (rows q) width) j) same
        ∙ compared_in_at (rows pass) width j h
    each (p ∷ ps) (suc x) pass j k e h z =
        rest_at (compared_in (rows p) width) (flat_map (λ q. compared_in (rows q) width) ps)
        (x * width + j) k (omega (arith, length-compared_in (rows p) width, z))
        ∙ each ps x pass j (x * width + j) e h refl

-- each row has the setting of its pass and carries a bit on every net
pub record AreRowsOf (rows : List Ctl → ℕ → TestRow) : Type 0 where
  pub setting : (pass : List Ctl) (j : ℕ) → (rows pass j).setting ≡ holds pass
  pub carried : (pass : List Ctl) (j n : ℕ) → (v : Bool) × ((rows pass j).carried n ≡ Some v)

module _ (board : RawBoard) (rules : IsBoard board) (rows : List Ctl → ℕ → TestRow) (are : AreRowsOf rows) (width : ℕ) where
  abbrev test : RowScan → Bool
  test t = is_compared (scan_of_row board t)

  -- the scan that compares row `j` of the pass compares some bit if and only if `b` is true
  abbrev pub Row : List Ctl → ℕ → TestRow → Bool → Type 0
  Row pass j now b = test (record { now = now; before = rows pass j }) ≡ b

  observed_row : (pass : List Ctl) → observes_some board pass ≡ true → (j : ℕ) (now : TestRow) → Row pass j now true
  observed_row pass some j now = by_driver (any_place (is_walked board pass) board.nets some)
    where
      by_driver : (f : Found (is_walked board pass) board.nets) → Row pass j now true
      by_driver f = by_option (observing_driver board (holds pass) f.item) refl f.passes
        where
          by_option : (o : Option ℕ) → observing_driver board (holds pass) f.item ≡ o → is_some o ≡ true → Row pass j now true
          by_option None e h = cc h
          by_option (Some d) e h =
              let c = are.carried pass j f.place in
              row_compares board rules now (rows pass j) f.place f.item d c.0 f.stands
              (ap (λ (s : Enabling). observing_driver board s f.item) (are.setting pass j) ∙ e) c.1

  unobserved_row : (pass : List Ctl) → observes_some board pass ≡ false → (j : ℕ) (now : TestRow) → Row pass j now false
  unobserved_row pass none j now = row_silent board now (rows pass j) no_driver
    where
      no_driver : (n : ℕ) (net : Net) → slice_get board.nets n ≡ Some net → observing_driver board (rows pass j).setting net ≡ None
      no_driver n net en =
          ap (λ (s : Enabling). observing_driver board s net) (are.setting pass j)
          ∙ by_option (observing_driver board (holds pass) net) refl
        where
          by_option : (o : Option ℕ) → observing_driver board (holds pass) net ≡ o → o ≡ None
          by_option None e = refl
          by_option (Some d) e =
              absurd
              (both_ways (observes_some board pass) none
              (any_at (is_walked board pass) board.nets n net en
              (ap (λ (x : Option ℕ). is_some x) e)))

  first_silent : (now : TestRow) → test (record { now = now; before = quiet_row }) ≡ false
  first_silent now =
      silent_compares (joined (row_bits board (record { now = now; before = quiet_row })))
      (quiet_silent board now 0 board.chain)

  -- After the scan that shifts in row `i` of a pass, all remaining scans compare some bit if `b` is true, and none does
  -- if `b` is false.
  kept : (pass : List Ctl) (b : Bool) → ((j : ℕ) (now : TestRow) → Row pass j now b) → (more j i : ℕ) →
      filter test (pass_scans (rows pass) more j (rows pass i)) ≡ cond b (pass_scans (rows pass) more j (rows pass i)) []
  kept pass true h zero j i =
      ap (λ (x : Bool). cond x (record { now = quiet_row; before = rows pass i } ∷ []) []) (h i quiet_row)
  kept pass true h (suc more) j i =
      ap
      (λ (x : Bool). cond x
      (record { now = rows pass j; before = rows pass i }
      ∷ filter test (pass_scans (rows pass) more (suc j) (rows pass j)))
      (filter test (pass_scans (rows pass) more (suc j) (rows pass j)))) (h i (rows pass j))
      ∙ cons_path refl (kept pass true h more (suc j) j)
  kept pass false h zero j i =
      ap (λ (x : Bool). cond x (record { now = quiet_row; before = rows pass i } ∷ []) []) (h i quiet_row)
  kept pass false h (suc more) j i =
      ap
      (λ (x : Bool). cond x
      (record { now = rows pass j; before = rows pass i }
      ∷ filter test (pass_scans (rows pass) more (suc j) (rows pass j)))
      (filter test (pass_scans (rows pass) more (suc j) (rows pass j)))) (h i (rows pass j))
      ∙ kept pass false h more (suc j) j

  in_pass : (pass : List Ctl) (b : Bool) → observes_some board pass ≡ b → (w : ℕ) →
      filter test (pass_scans (rows pass) w 0 quiet_row) ≡ cond b (compared_in (rows pass) w) []
  in_pass pass b e zero =
      ap (λ (x : Bool). cond x (record { now = quiet_row; before = quiet_row } ∷ []) [])
      (first_silent quiet_row) ∙ by_cases b
    where
      by_cases : (c : Bool) → [] ≡ cond c (compared_in (rows pass) zero) []
      by_cases true = refl
      by_cases false = refl
  in_pass pass true e (suc w) =
      ap
      (λ (x : Bool). cond x
      (record { now = rows pass 0; before = quiet_row }
      ∷ filter test (pass_scans (rows pass) w 1 (rows pass 0)))
      (filter test (pass_scans (rows pass) w 1 (rows pass 0)))) (first_silent (rows pass 0))
      ∙ kept pass true (observed_row pass e) w 1 0
  in_pass pass false e (suc w) =
      ap
      (λ (x : Bool). cond x
      (record { now = rows pass 0; before = quiet_row }
      ∷ filter test (pass_scans (rows pass) w 1 (rows pass 0)))
      (filter test (pass_scans (rows pass) w 1 (rows pass 0)))) (first_silent (rows pass 0))
      ∙ kept pass false (unobserved_row pass e) w 1 0

  compared_are : (passes : List (List Ctl)) →
      compared_scans board (row_scans rows width passes)
      ≡ flat_map (λ pass. compared_in (rows pass) width) (filter (observes_some board) passes)
  compared_are [] = refl
  compared_are (p ∷ ps) =
      filter-append test (pass_scans (rows p) width 0 quiet_row) (row_scans rows width ps)
      ∙ by_test (compared_are ps) (observes_some board p) refl
    where
      by_test : compared_scans board (row_scans rows width ps)
          ≡ flat_map (λ pass. compared_in (rows pass) width) (filter (observes_some board) ps) →
          (b : Bool) → observes_some board p ≡ b →
          filter test (pass_scans (rows p) width 0 quiet_row)
          ++ filter test (row_scans rows width ps)
          ≡ flat_map (λ pass. compared_in (rows pass) width)
          (cond b (p ∷ filter (observes_some board) ps) (filter (observes_some board) ps))
      by_test ih true e =
          ap (λ (l : List RowScan). l ++ filter test (row_scans rows width ps))
          (in_pass p true e width) ∙ ap (λ (l : List RowScan). compared_in (rows p) width ++ l) ih
      by_test ih false e = ap (λ (l : List RowScan). l ++ filter test (row_scans rows width ps)) (in_pass p false e width) ∙ ih

  pub compare_rows : (passes : List (List Ctl))
      → CompareRows rows width (filter (observes_some board) passes)
      (compared_scans board (row_scans rows width passes))
  compare_rows passes =
      subst (λ (l : List RowScan). CompareRows rows width (filter (observes_some board) passes) l)
      (sym (compared_are passes)) (gathered rows width (filter (observes_some board) passes))

pub code_rows_are : (board : RawBoard) (passes : List (List Ctl)) → AreRowsOf (code_row board passes)
code_rows_are board passes = record { setting = λ pass j. refl; carried = λ pass j n. (net_code_bit board passes j n, refl) }

walk_rows_are : (board : RawBoard) → AreRowsOf (walk_row board)
walk_rows_are board =
    record {
      setting = λ pass j. refl;
      carried = λ pass j n.
          (count_by (is_walked board pass) (take n board.nets) == j, refl);
    }

module _ (board : RawBoard) (passes : List (List Ctl)) (are : ArePasses board passes) where
  pass_observes : (x : ℕ) (pass : List Ctl) → slice_get passes x ≡ Some pass → observes_some board pass ≡ true
  pass_observes x pass e = elim (are.needed x pass e) [ inl new ↦ by_enabled new | inr new ↦ by_observed new ]
    where
      by_enabled : EnablesNew board (take x passes) pass → observes_some board pass ≡ true
      by_enabled new =
          let o = new.enables in
          any_at (is_walked board pass) board.nets new.net o.0 o.1
          (ap (λ (d : Option ℕ). is_some d)
          (observing_is board (holds pass) (are.safe x pass e) new.net o.0 new.place o.1 o.2))

      by_observed : ObservesNew board (take x passes) pass → observes_some board pass ≡ true
      by_observed new =
          let o = new.observes.0 in
          any_at (is_walked board pass) board.nets new.low o.0 o.1
          (ap (λ (d : Option ℕ). is_some d)
          (observing_is board (holds pass) (are.safe x pass e) new.low o.0 o.2.0 o.1 o.2.1))

  pub all_observe : filter (observes_some board) passes ≡ passes
  all_observe = filter_all (observes_some board) passes pass_observes

pub passes_compare : (board : RawBoard) (passes : List (List Ctl)) (width : ℕ) → IsBoard board → ArePasses board passes →
    CompareRows (code_row board passes) width passes (compared_scans board (row_scans (code_row board passes) width passes))
passes_compare board passes width rules are =
    subst
    (λ (ps : List (List Ctl)). CompareRows (code_row board passes) width ps
    (compared_scans board (row_scans (code_row board passes) width passes)))
    (all_observe board passes are) (compare_rows board rules (code_row board passes) (code_rows_are board passes) width passes)

none_counted : (p : Net → Bool) (nets : List Net) → list_any p nets ≡ false → count_by p nets ≡ 0
none_counted p nets h =
    sym (length-filter p nets)
    ∙ ap (λ (l : List Net). length l)
    (filter_none p nets
    (λ i x e. false_from_ne_true (p x)
    (λ on. both_ways (list_any p nets) h (any_at p nets i x e on))))

pub walk_compares : (board : RawBoard) (walk : List Ctl) → IsBoard board →
    CompareRows (walk_row board) (count_by (is_walked board walk) board.nets) (walk ∷ []) (compared_scans board (walk_row_scans board walk))
walk_compares board walk rules =
    by_test (observes_some board walk) refl
    (compare_rows board rules (walk_row board) (walk_rows_are board) m (walk ∷ []))
  where
    m : ℕ
    m = count_by (is_walked board walk) board.nets

    by_test : (b : Bool) → observes_some board walk ≡ b
        → CompareRows (walk_row board) (count_by (is_walked board walk) board.nets)
        (cond b (walk ∷ []) []) (compared_scans board (walk_row_scans board walk)) →
        CompareRows (walk_row board) (count_by (is_walked board walk) board.nets) (walk ∷ [])
        (compared_scans board (walk_row_scans board walk))
    by_test true e h = h
    by_test false e h =
        let none : count_by (is_walked board walk) board.nets ≡ 0 = none_counted (is_walked board walk) board.nets e in
        record {
          count = h.count ∙ omega (arith, none);
          each = λ x pass j at less. absurd (omega (arith, less, none));
        }
