-- Lemmas about when a set of groups explains a log. In each row, a compared cell must read 1 if its net is the net that carries 1 or is in
-- one group with that net, and otherwise 0.
use Rattle.std.proofs.Common.{◌≡◌, ◌≢◌, ◌⊎◌, inl, inr, ℕ, zero, suc, ◌+◌, ◌*◌, ◌<◌, ◌≤◌, ◌==◌, Bool, true, false, List, [], ◌∷◌, length, take, get_or, Option, Some, None, is_some, refl, sym, ◌∙◌, ap, subst, arith}
use Rattle.std.specs.Prelude.{◌↔◌, slice_get, count_by, All, Contains}
use Rattle.std.proofs.lemmas.Bool.{cases_eq}
use Rattle.std.proofs.lemmas.Option.{slice_get_within, slice_get-get_or, get_or_from_slice_get}
use Rattle.board_defs.specs.declared.board.RawBoard.{RawBoard}
use Rattle.board_defs.specs.declared.board.Ctl.{Ctl}
use Rattle.board_defs.specs.BoardRules.{IsBoard}
use Rattle.board_defs.specs.Coverage.{IsCovered}
use Rattle.board_defs.specs.Pins.{data_bits}
use Rattle.board_defs.specs.Settings.{holds, IsSafe}
use Rattle.board_defs.proofs.Members.{Has, has_at, contains_has, has_from_all}
use Rattle.board_defs.proofs.Places.{all_stands}
use Rattle.tap_defs.specs.board.FaultSet.{FaultSet, IsFaultSet}
use Rattle.tap_defs.specs.chain.Run.{Choice}
use Rattle.tap_defs.specs.chain.Scan.{ScanBit, joined, mask_bits}
use Rattle.tap_defs.specs.board.TestRows.{TestRow, quiet_row}
use Rattle.tap_defs.specs.board.BoardScans.{RowScan, row_bits, is_walked, walk_row, walk_row_scans, row_now}
use Rattle.tap_defs.specs.board.RowCaptures.{row_states, row_captured, AgreeAt, AgreeWhereCompared}
use Rattle.tap_defs.specs.board.Explaining.{compared_scans, CompareRows, HasShape, ExplainedBy, IsCapturedBy}
use Rattle.tap_defs.proofs.chain.ListLemmas.{Rises}
use Rattle.tap_defs.proofs.board.CellPlaceLemmas.{agree_at, agree_from, captured_cell}
use Rattle.tap_defs.proofs.board.LogLemmas.{rows_counted}
use Rattle.tap_defs.proofs.board.PlanLemmas.{observed_by}
use Rattle.plan_tables.specs.declared.tables.DriverCell.{DriverCell}
use Rattle.net_pins.specs.declared.nets.ReaderCell.{ReaderCell}
use Rattle.plan_tables.specs.Tables.{IsDriverCell, IsReaderCell}
use Rattle.plan_tables.proofs.LaidLemmas.{length-laid, mask_laid}
use Rattle.walk_test.specs.WalkTest.{walk_setting, walk_nets}
use Rattle.walk_test.specs.Groups.{AreGroups, group_of, or_shorts}
use Rattle.walk_test.specs.inner.Reading.{are_joined}
use Rattle.walk_test.specs.Tables.{mask_of}
use Rattle.walk_test.proofs.GroupLemmas.{AreOrdered, groups_ordered, group_found, group_is}
use Rattle.walk_test.proofs.CellLemmas.{IsWalkSetting, WalkedBy, compared_of, captured_is, cell_is}
use Rattle.walk_test.proofs.NetLemmas.{walk_has, count_is, marked_is, no_nets}
use Rattle.walk_test.proofs.RowLemmas.{CellsOf, ComparedAt, compared_at, laid_here, mask_here}

walked_covered : (board : RawBoard) (walk : List Ctl) (n : ℕ) → IsSafe board (holds walk) → WalkedBy board walk n → IsCovered board n
walked_covered board walk n safe w = (
  holds walk,
  safe,
  (w.net, w.is_net, (w.driver, observed_by board (holds walk) w.net w.driver w.observing)),
)

pub group_nets : (board : RawBoard) (groups : List (List ℕ)) → AreGroups board groups → (n k : ℕ)
    → group_of groups n ≡ Some k → Contains (walk_nets board) n
group_nets board groups are n k e =
    let g = group_found 0 groups n k e in
    has_from_all (λ (m : ℕ). Contains (walk_nets board) m) g.group n
    (has_from_all (λ (group : List ℕ). All (λ m. Contains (walk_nets board) m) group) groups g.group
    are.walked (has_at groups g.index g.group g.stands)) g.member

pub another : (group : List ℕ) (n : ℕ) → 2 ≤ length group → Rises group → (m : ℕ) × Has group m × (m ≢ n)
another [] n some rise = absurd (omega (arith, some))
another (x ∷ []) n some rise = absurd (omega (arith, some))
another (x ∷ y ∷ group) n some rise = by_case (cases_eq x n)
  where
    by_case : (x ≡ n) ⊎ (x ≡ n → ⊥) → (m : ℕ) × Has (x ∷ y ∷ group) m × (m ≢ n)
    by_case (inl same) = (y, inr (inl refl), λ e. omega (arith, same, e, rise.0 y (inl refl)))
    by_case (inr other) = (x, inl refl, other)

faults_of : (board : RawBoard) (groups : List (List ℕ)) → AreOrdered groups
    → ((n k : ℕ) → group_of groups n ≡ Some k → IsCovered board n)
    → IsFaultSet board (or_shorts groups)
faults_of board groups ordered covered = record {
  disjoint = λ n v e. cc e;
  several = λ n k e.
      let g = group_found 0 groups n k e in
      let has = has_at groups g.index g.group g.stands in
      let a = another g.group n (ordered.several g.group has) (ordered.rise g.group has) in
      let number : 0 + g.index ≡ k = omega (arith, g.number_is) in
      (a.0, a.2, group_is 0 groups g.index g.group a.0 ordered.apart g.stands a.1 ∙ ap (λ (i : ℕ). Some i) number);
  covered = covered;
  dominant = λ n k d e f. cc f;
}

pub shorts_are_faults : (board : RawBoard) (groups : List (List ℕ))
    → ((walk : List Ctl) → walk_setting board ≡ Some walk → IsSafe board (holds walk))
    → AreGroups board groups → IsFaultSet board (or_shorts groups)
shorts_are_faults board groups safe are = by_setting (walk_setting board) refl
  where
    by_setting : (o : Option (List Ctl)) → walk_setting board ≡ o → IsFaultSet board (or_shorts groups)
    by_setting None e =
        faults_of board groups (groups_ordered board groups are)
        (λ n k g. absurd (contains_has [] n (subst (λ (l : List ℕ). Contains l n) (no_nets board e) (group_nets board groups are n k g))))
    by_setting (Some walk) e =
        faults_of board groups (groups_ordered board groups are)
        (λ n k g. walked_covered board walk n (safe walk e) (walk_has board walk e n (group_nets board groups are n k g)))

mask_bit : (bits : List ScanBit) (i : ℕ) → get_or (mask_bits bits) i false ≡ true
    → (b : ScanBit) × (v : Bool) × (slice_get bits i ≡ Some b) × (b.expect ≡ Some v)
mask_bit [] i e = cc e
mask_bit (b ∷ bits) zero e = by_expect b.expect refl e
  where
    by_expect : (o : Option Bool) → b.expect ≡ o → is_some o ≡ true
        → (a : ScanBit) × (v : Bool) × (slice_get (b ∷ bits) 0 ≡ Some a) × (a.expect ≡ Some v)
    by_expect None q h = cc h
    by_expect (Some v) q h = (b, v, refl, q)
mask_bit (b ∷ bits) (suc i) e = let r = mask_bit bits i e in (r.0, r.1, r.2, r.3)

bit_mask : (bits : List ScanBit) (i : ℕ) (b : ScanBit) (v : Bool) → slice_get bits i ≡ Some b
    → b.expect ≡ Some v → get_or (mask_bits bits) i false ≡ true
bit_mask [] i b v e q = cc e
bit_mask (a ∷ bits) zero b v e q =
    let same : a ≡ b = cc e in
    ap (λ (x : ScanBit). is_some x.expect) same ∙ ap (λ (o : Option Bool). is_some o) q
bit_mask (a ∷ bits) (suc i) b v e q = bit_mask bits i b v e q

mask_any : (board : RawBoard) (scan : RowScan) → mask_bits (joined (row_bits board scan)) ≡ mask_of board scan.before
mask_any board scan = mask_laid board scan ∙ sym (mask_laid board (record { now = quiet_row; before = scan.before }))

-- In each row, each compared cell of a walk net reads 1 if its net is the net that carries 1 or is in one group with that net, and
-- otherwise 0.
abbrev pub ShowJoined : RawBoard → List Ctl → List (List Bool) → List (List ℕ) → Type 0
ShowJoined board walk log groups =
    (j one : ℕ) (logged : List Bool) (d : DriverCell) (s : IsDriverCell board walk d)
    (r : ReaderCell) → IsReaderCell board s.net r → (r.place == d.place) ≡ false →
    slice_get (walk_nets board) j ≡ Some one → slice_get log j ≡ Some logged → get_or logged r.position false ≡ are_joined groups d.net one

module _ (board : RawBoard) (rules : IsBoard board) (walk : List Ctl)
    (is : walk_setting board ≡ Some walk) (setting : IsWalkSetting board walk)
    (compare : CompareRows (walk_row board) (count_by (is_walked board walk) board.nets) (walk ∷ [])
    (compared_scans board (walk_row_scans board walk)))
    (groups : List (List ℕ)) (are : AreGroups board groups) where
  abbrev scans : List RowScan
  scans = walk_row_scans board walk

  abbrev m : ℕ
  m = count_by (is_walked board walk) board.nets

  abbrev faults : FaultSet
  faults = or_shorts groups

  is_set : IsFaultSet board faults
  is_set =
      shorts_are_faults board groups
      (λ other e. let same : Some walk ≡ Some other = sym is ∙ e in
      let one : walk ≡ other = cc same in
      subst (λ (l : List Ctl). IsSafe board (holds l)) one setting.safe) are

  walked : (n k : ℕ) → group_of groups n ≡ Some k → WalkedBy board walk n
  walked n k e = walk_has board walk is n (group_nets board groups are n k e)

  abbrev scan_of : ℕ → RowScan
  scan_of j = record { now = row_now (walk_row board walk) m (suc j); before = walk_row board walk j }

  scan_at : (j : ℕ) → j < m → slice_get (compared_scans board scans) j ≡ Some (scan_of j)
  scan_at j less =
      let z : 0 * m + j ≡ j = grind arith in
      ap (λ (i : ℕ). slice_get (compared_scans board scans) i) (sym z) ∙ compare.each 0 walk j refl less

  rows_are : length (compared_scans board scans) ≡ m
  rows_are = compare.count ∙ one_times m
    where
      one_times : (k : ℕ) → 1 * k ≡ k
      one_times k = grind arith

  -- the bit that a compared cell captures in row j
  module _ (j one : ℕ) (at : slice_get (walk_nets board) j ≡ Some one) (d : DriverCell)
      (s : IsDriverCell board walk d) (r : ReaderCell) (q : IsReaderCell board s.net r)
      (other : (r.place == d.place) ≡ false) (choice : Choice) where
    w : WalkedBy board walk d.net
    w = record { net = s.net; is_net = s.is_net; driver = d.place; observing = s.observing }

    captured_at : (r.position < data_bits board)
        × (get_or (row_captured board faults (walk_row board walk j) choice) r.position false
        ≡ are_joined groups d.net one)
    unfolding w
    captured_at =
        let h = laid_here board rules walk d.net s.net s.is_net d.place s.observing r q other
        (captured_cell board faults (row_states board (walk_row board walk j)) choice) in (
          h.0,
          ap (λ (l : List Bool). get_or l r.position false) (captured_is board faults (walk_row board walk j) choice) ∙ h.1
              ∙ cell_is board rules walk setting j groups is_set walked d.net w one
              (λ n x. marked_is board walk is j one at n x)
              (compared_of board rules walk d.net s.net s.is_net d.place s.observing r q other)
              choice,
        )

  row_below : (j one : ℕ) → slice_get (walk_nets board) j ≡ Some one → j < m
  row_below j one at = omega (arith, slice_get_within (walk_nets board) j one at, count_is board walk is)

  long_captured : (row : TestRow) (choice : Choice) → length (row_captured board faults row choice) ≡ data_bits board
  long_captured row choice =
      ap (λ (l : List Bool). length l) (captured_is board faults row choice)
      ∙ length-laid (captured_cell board faults (row_states board row) choice) board

  long_log : (log : List (List Bool)) → HasShape board scans log → (j : ℕ) (logged : List Bool)
      → slice_get log j ≡ Some logged → length logged ≡ data_bits board
  long_log log shape j logged e = all_stands (λ (row : List Bool). length row ≡ data_bits board) log j logged e shape.bits

  abbrev some_choice : Choice
  some_choice =
      record {
        parts = λ k. record
            { ir = λ i. false; cells = λ i. false; latches = λ i. false; tdo = false; other = false };
        shorts = λ k. false;
        tdi = false;
      }

  shows : (log : List (List Bool)) → HasShape board scans log → IsCapturedBy board faults scans log → ShowJoined board walk log groups
  shows log shape captured j one logged d s r q other at e =
      let c = captured_at j one at d s r q other some_choice in
      let cap : List Bool = row_captured board faults (walk_row board walk j) some_choice in
      let masked : get_or (mask_bits (joined (row_bits board (scan_of j)))) r.position false ≡ true =
      ap (λ (l : List Bool). get_or l r.position false) (mask_any board (scan_of j))
      ∙ mask_here board rules walk d.net s.net s.is_net d.place s.observing r q other
      (λ n. count_by (is_walked board walk) (take n board.nets) == j) in
      let b = mask_bit (joined (row_bits board (scan_of j))) r.position masked in
      let in_log : r.position < length logged = omega (arith, c.0, long_log log shape j logged e) in
      let in_cap : r.position < length cap = omega (arith, c.0, long_captured (walk_row board walk j) some_choice) in
      let agree = agree_at (joined (row_bits board (scan_of j))) logged cap r.position b.0
      (get_or logged r.position false) (get_or cap r.position false)
      (captured j (scan_of j) logged some_choice (scan_at j (row_below j one at)) e) b.2
      (slice_get-get_or logged r.position false in_log)
      (slice_get-get_or cap r.position false in_cap) in
      subst (λ (o : Option Bool). AgreeAt o (get_or logged r.position false) (get_or cap r.position false)) b.3 agree ∙ c.1

  captures : (log : List (List Bool)) → HasShape board scans log → CellsOf board walk
      → ShowJoined board walk log groups → IsCapturedBy board faults scans log
  captures log shape cells shown x scan logged choice e f = by_scan (scan_at x below)
    where
      below : x < m
      below = omega (arith, slice_get_within (compared_scans board scans) x scan e, rows_are)

      net_there : (k : ℕ) → k < length (walk_nets board) → slice_get (walk_nets board) k ≡ Some (get_or (walk_nets board) k 0)
      net_there k less = slice_get-get_or (walk_nets board) k 0 less

      one_at : slice_get (walk_nets board) x ≡ Some (get_or (walk_nets board) x 0)
      one_at = net_there x (omega (arith, below, count_is board walk is))

      each : (i : ℕ) (b : ScanBit) (u y : Bool)
          → slice_get (joined (row_bits board (scan_of x))) i ≡ Some b → slice_get logged i ≡ Some u
          → slice_get (row_captured board faults (walk_row board walk x) choice) i ≡ Some y
          → (o : Option Bool) → b.expect ≡ o → AgreeAt o u y
      each i b u y eb eu ey None q = tt
      each i b u y eb eu ey (Some v) q =
          let masked : get_or (mask_of board (walk_row board walk x)) i false ≡ true =
          sym (ap (λ (l : List Bool). get_or l i false) (mask_any board (scan_of x)))
          ∙ bit_mask (joined (row_bits board (scan_of x))) i b v eb q in
          let c : ComparedAt board rules walk cells i = compared_at board rules walk cells
          (λ n. count_by (is_walked board walk) (take n board.nets) == x) i masked in
          let cap = captured_at x (get_or (walk_nets board) x 0) one_at c.driver c.is_driver c.reader c.is_reader c.other choice in
          let log_bit : get_or logged i false ≡ are_joined groups c.driver.net (get_or (walk_nets board) x 0) =
          ap (λ (k : ℕ). get_or logged k false) (sym c.position_is)
          ∙ shown x (get_or (walk_nets board) x 0) logged c.driver c.is_driver c.reader
          c.is_reader c.other one_at f in
          let cap_bit : get_or (row_captured board faults (walk_row board walk x) choice) i false
          ≡ are_joined groups c.driver.net (get_or (walk_nets board) x 0) =
          ap (λ (k : ℕ). get_or (row_captured board faults (walk_row board walk x) choice) k false) (sym c.position_is) ∙ cap.1 in
          sym (get_or_from_slice_get logged i u false eu) ∙ log_bit ∙ sym cap_bit
          ∙ get_or_from_slice_get (row_captured board faults (walk_row board walk x) choice) i y
          false ey

      by_scan : slice_get (compared_scans board scans) x ≡ Some (scan_of x)
          → AgreeWhereCompared (joined (row_bits board scan)) logged
          (row_captured board faults scan.before choice)
      by_scan at =
          let two : Some (scan_of x) ≡ Some scan = sym at ∙ e in
          let same : scan_of x ≡ scan = cc two in
          subst (λ (t : RowScan). AgreeWhereCompared (joined (row_bits board t)) logged (row_captured board faults t.before choice)) same
          (agree_from (joined (row_bits board (scan_of x))) logged
          (row_captured board faults (walk_row board walk x) choice)
          (λ i b u y eb eu ey. each i b u y eb eu ey b.expect refl))

  pub shaped : (log : List (List Bool)) → length log ≡ length (walk_nets board)
      → All (λ row. length row ≡ data_bits board) log → HasShape board scans log
  shaped log rows bits = record { rows = rows ∙ count_is board walk is ∙ sym rows_are ∙ sym (rows_counted board scans); bits = bits }

  module _
      (by_rows : (log : List (List Bool))
      → ExplainedBy board faults scans log
      ↔ (HasShape board scans log × IsCapturedBy board faults scans log)) (log : List (List Bool))
    where
      pub explained_shows : ExplainedBy board faults scans log → ShowJoined board walk log groups
      explained_shows h = let r = (by_rows log).0 h in shows log r.0 r.1

      pub shows_explained : HasShape board scans log → CellsOf board walk
          → ShowJoined board walk log groups → ExplainedBy board faults scans log
      shows_explained shape cells shown = (by_rows log).1 (shape, captures log shape cells shown)

      pub explained_rows : ExplainedBy board faults scans log → length log ≡ length (walk_nets board)
      explained_rows h = h.shape.rows ∙ rows_counted board scans ∙ rows_are ∙ sym (count_is board walk is)
