-- Lemmas about the rows of the walking test, position by position.
use Rattle.std.proofs.Common.{◌≡◌, ◌⊎◌, inl, inr, ℕ, ◌+◌, ◌<◌, ◌≤◌, ◌==◌, Bool, true, false, not, List, [], ◌∷◌, ◌++◌, length, get_or, set, replicate, Option, Some, is_some, unwrap_or, refl, sym, ◌∙◌, ap, subst, arith, length-set}
use Rattle.std.specs.Prelude.{slice_get, filter, Contains, All, count_by}
use Rattle.std.specs.List.{list_any, flat_map}
use Rattle.std.proofs.lemmas.Bool.{both_ways, cases_eq, cases_lt, eq-eqb, not-true}
use Rattle.std.proofs.lemmas.List.{get_or-set_same, get_or-set_other, get_or_past, get_or-replicate, length-replicate}
use Rattle.std.proofs.lemmas.Option.{get_or_from_slice_get}
use Rattle.board_defs.specs.declared.device.Cell.{Cell}
use Rattle.board_defs.specs.declared.device.RawDevice.{RawDevice}
use Rattle.board_defs.specs.declared.board.PinAt.{PinAt}
use Rattle.board_defs.specs.declared.board.NetPin.{NetPin}
use Rattle.board_defs.specs.declared.board.Net.{Net}
use Rattle.board_defs.specs.declared.board.RawBoard.{RawBoard}
use Rattle.board_defs.specs.declared.board.Ctl.{Ctl}
use Rattle.board_defs.specs.BoardRules.{IsBoard}
use Rattle.board_defs.specs.Pins.{data_bits, entry_at}
use Rattle.board_defs.specs.Settings.{holds}
use Rattle.board_defs.proofs.Members.{Has, has_contains, contains_has, flat_map_has, map_has, has_map, has_filter, filter_has, any_has}
use Rattle.tap_defs.specs.board.TestRows.{TestRow, quiet_row, code_row, row_bit, expect_bit, observing_driver, reads_beside}
use Rattle.tap_defs.proofs.board.WrongLemmas.{Compared, expects}
use Rattle.tap_defs.proofs.board.ReadingLemmas.{beside_observing}
use Rattle.plan_tables.specs.declared.tables.DriverCell.{DriverCell}
use Rattle.net_pins.specs.declared.nets.ReaderCell.{ReaderCell}
use Rattle.net_pins.specs.NetCells.{readers_of as readers_in_order}
use Rattle.plan_tables.specs.declared.tables.PlanTables.{PlanTables}
use Rattle.plan_tables.specs.Assigned.{assigned}
use Rattle.plan_tables.specs.inner.Laid.{bits_of_parts, steady}
use Rattle.scan_planner.specs.Plans.{IsPlanOf}
use Rattle.plan_tables.specs.Tables.{first_position, IsDriverCell, IsReaderCell}
use Rattle.plan_tables.proofs.AssignLemmas.{assigned_is, mark_has}
use Rattle.scan_planner.proofs.DriverLemmas.{pass_row, row_cells, drivers_laid}
use Rattle.plan_tables.proofs.LaidLemmas.{laid_at, length-laid, zeros_laid, tdi_laid, tdo_laid, mask_laid}
use Rattle.plan_tables.proofs.PinLemmas.{Standing, standing, drives_by, entry_on}
use Rattle.plan_tables.proofs.ReaderTableLemmas.{ReadersOf}
use Rattle.scan_planner.proofs.ReaderLemmas.{Pair, pairs, pairs_of, pair_has, tdo_compared, mask_compared}
use Rattle.plan_tables.proofs.SeenLemmas.{driver_cell}
use Rattle.plan_tables.proofs.TableLemmas.{beside_is, reader_is, is_reader}
use Rattle.walk_test.specs.declared.tables.NetCells.{NetCells}
use Rattle.walk_test.specs.Tables.{tdi_of, mask_of, still_row, AreNetCells}
use Rattle.walk_test.specs.inner.Tables.{tdo_of, positions_beside}
use Rattle.walk_test.proofs.CellLemmas.{WalkedBy, compared_of, compared_device, compared_position}

-- Set the bits of `f` in row `s`, and the bits of `g` in row `t`. If the rows agreed at place `i`, they still agree there, unless some item
-- has place `i` and different bits under `f` and `g`.
apart_at : {X : Type 0} (place : X → ℕ) (f g : X → Bool) (xs : List X) (s t : List Bool) (i : ℕ) → length s ≡ length t →
    (get_or s i false ≡ get_or t i false) ⊎ ((x : X) × Has xs x × (place x ≡ i) × (f x ≡ g x → ⊥)) →
    (get_or (assigned place f s xs) i false ≡ get_or (assigned place g t xs) i false)
    ⊎ ((x : X) × Has xs x × (place x ≡ i) × (f x ≡ g x → ⊥))
apart_at place f g [] s t i long h = h
apart_at {X} place f g (x ∷ xs) s t i long h =
    by_rest
    (apart_at place f g xs (set s (place x) (f x)) (set t (place x) (g x)) i
    (length-set s (place x) (f x) ∙ long ∙ sym (length-set t (place x) (g x))))
    (by_place (cases_eq i (place x)) (same_bits (f x) (g x)))
  where
    Differ : List X → Type 0
    Differ ys = (y : X) × Has ys y × (place y ≡ i) × (f y ≡ g y → ⊥)

    after : Type 0
    after = get_or (set s (place x) (f x)) i false ≡ get_or (set t (place x) (g x)) i false

    same_bits : (a b : Bool) → (a ≡ b) ⊎ (a ≡ b → ⊥)
    same_bits true true = inl refl
    same_bits false false = inl refl
    same_bits true false = inr (λ e. cc e)
    same_bits false true = inr (λ e. cc e)

    set_both : f x ≡ g x → i ≡ place x → (i < length s) ⊎ (length s ≤ i) → after
    set_both e at (inl less) =
        ap (λ (k : ℕ). get_or (set s (place x) (f x)) k false) at ∙ get_or-set_same s (place x) (f x) false (omega (arith, less, at)) ∙ e
        ∙ sym
        (ap (λ (k : ℕ). get_or (set t (place x) (g x)) k false) at
        ∙ get_or-set_same t (place x) (g x) false (omega (arith, less, at, long)))
    set_both e at (inr past) =
        get_or_past (set s (place x) (f x)) i false (omega (arith, past, length-set s (place x) (f x)))
        ∙ sym (get_or_past (set t (place x) (g x)) i false (omega (arith, past, long, length-set t (place x) (g x))))

    earlier : (i ≡ place x → ⊥) → (get_or s i false ≡ get_or t i false) ⊎ Differ (x ∷ xs) → after ⊎ Differ (x ∷ xs)
    earlier other (inl e) =
        inl
        (get_or-set_other s (place x) i (f x) false other ∙ e
        ∙ sym (get_or-set_other t (place x) i (g x) false other))
    earlier other (inr d) = inr d

    by_place : (i ≡ place x) ⊎ (i ≡ place x → ⊥) → (f x ≡ g x) ⊎ (f x ≡ g x → ⊥) → after ⊎ Differ (x ∷ xs)
    by_place (inl at) (inl e) = inl (set_both e at (cases_lt i (length s)))
    by_place (inl at) (inr ne) = inr (x, inl refl, sym at, ne)
    by_place (inr other) k = earlier other h

    lift : Differ xs → Differ (x ∷ xs)
    lift (y, has, at, ne) = (y, inr has, at, ne)

    by_rest :
        (after ⊎ Differ xs
        → (get_or (assigned place f (set s (place x) (f x)) xs) i false
        ≡ get_or (assigned place g (set t (place x) (g x)) xs) i false) ⊎ Differ xs) →
        after ⊎ Differ (x ∷ xs)
        → (get_or (assigned place f (set s (place x) (f x)) xs) i false
        ≡ get_or (assigned place g (set t (place x) (g x)) xs) i false) ⊎ Differ (x ∷ xs)
    by_rest ih (inr d) = inr d
    by_rest ih (inl e) = by_end (ih (inl e))
      where
        by_end :
            (get_or (assigned place f (set s (place x) (f x)) xs) i false
            ≡ get_or (assigned place g (set t (place x) (g x)) xs) i false) ⊎ Differ xs →
            (get_or (assigned place f (set s (place x) (f x)) xs) i false
            ≡ get_or (assigned place g (set t (place x) (g x)) xs) i false) ⊎ Differ (x ∷ xs)
        by_end (inl k) = inl k
        by_end (inr d) = inr (lift d)

one_from : {X : Type 0} (place : X → ℕ) (f : X → Bool) (xs : List X) (s : List Bool) (i : ℕ)
    → get_or (assigned place f s xs) i false ≡ true →
    (get_or s i false ≡ true) ⊎ ((x : X) × Has xs x × (place x ≡ i) × (f x ≡ true))
one_from place f [] s i e = inl e
one_from {X} place f (x ∷ xs) s i e = by_later (one_from place f xs (set s (place x) (f x)) i e)
  where
    by_place : (i ≡ place x) ⊎ (i ≡ place x → ⊥) → (i < length s) ⊎ (length s ≤ i)
        → get_or (set s (place x) (f x)) i false ≡ true
        → (get_or s i false ≡ true) ⊎ ((y : X) × Has (x ∷ xs) y × (place y ≡ i) × (f y ≡ true))
    by_place (inr other) k one = inl (sym (get_or-set_other s (place x) i (f x) false other) ∙ one)
    by_place (inl at) (inl less) one =
        inr (
          x,
          inl refl,
          sym at,
          sym (get_or-set_same s (place x) (f x) false (omega (arith, less, at)))
              ∙ sym (ap (λ (k : ℕ). get_or (set s (place x) (f x)) k false) at) ∙ one,
        )
    by_place (inl at) (inr past) one =
        absurd
        (both_ways (get_or (set s (place x) (f x)) i false)
        (get_or_past (set s (place x) (f x)) i false
        (omega (arith, past, length-set s (place x) (f x)))) one)

    by_later : (get_or (set s (place x) (f x)) i false ≡ true)
        ⊎ ((y : X) × Has xs y × (place y ≡ i) × (f y ≡ true))
        → (get_or s i false ≡ true) ⊎ ((y : X) × Has (x ∷ xs) y × (place y ≡ i) × (f y ≡ true))
    by_later (inl k) = by_place (cases_eq i (place x)) (cases_lt i (length s)) k
    by_later (inr (y, has, at, one)) = inr (y, inr has, at, one)

-- the driver cells by which a setting observes nets, and the compared cells of each net
pub record CellsOf (board : RawBoard) (walk : List Ctl) : Type 0 where
  pub drivers : List DriverCell
  pub only : (d : DriverCell) → Has drivers d → IsDriverCell board walk d
  pub every : (d : DriverCell) → IsDriverCell board walk d → Has drivers d
  pub readers : List (List ReaderCell)
  pub are : ReadersOf board readers

pub cells_of_plan : (board : RawBoard) (plan : PlanTables) (walk : List Ctl) → IsPlanOf board plan
    → plan.passes ≡ walk ∷ [] → CellsOf board walk
cells_of_plan board plan walk p is =
    let t = p.tables.cells 0 walk (ap (λ (l : List (List Ctl)). slice_get l 0) is) in
    let all : List DriverCell = plan.steady ++ t.0.drivers in
    record {
      drivers = all;
      only = λ d has. (t.2.drivers d).0 (has_contains all d has);
      every = λ d is_driver. contains_has all d ((t.2.drivers d).1 is_driver);
      readers = plan.nets.readers;
      are = λ n net e.
          let r = p.tables.readers n net e in
          let same : get_or plan.nets.readers n [] ≡ r.0 = get_or_from_slice_get plan.nets.readers n r.0 [] r.1 in (
            λ x h. (r.2 x).0 (has_contains r.0 x (subst (λ (l : List ReaderCell). Has l x) same h)),
            λ x q. subst (λ (l : List ReaderCell). Has l x) (sym same) (contains_has r.0 x ((r.2 x).1 q)),
          );
    }

pub one_driver : (board : RawBoard) (walk : List Ctl) (d e : DriverCell) → IsDriverCell board walk d
    → IsDriverCell board walk e → d.net ≡ e.net → (d.place ≡ e.place) × (d.position ≡ e.position)
one_driver board walk d e p q same =
    let nets : Some p.net ≡ Some q.net = sym p.is_net ∙ ap (λ (n : ℕ). slice_get board.nets n) same ∙ q.is_net in
    let net : p.net ≡ q.net = cc nets in
    let places : Some d.place
    ≡ Some e.place = sym p.observing
    ∙ ap (λ (n : Net). observing_driver board (holds walk) n) net ∙ q.observing in
    let place : d.place ≡ e.place = cc places in
    let pins : Some p.pin
    ≡ Some q.pin = sym p.is_pin ∙ ap (λ (n : Net). slice_get n.pins d.place) net
    ∙ ap (λ (i : ℕ). slice_get q.net.pins i) place ∙ q.is_pin in
    let pin : p.pin ≡ q.pin = cc pins in
    let ats : Some p.at ≡ Some q.at = sym p.is_at ∙ ap (λ (x : NetPin). x.at) pin ∙ q.is_at in
    let at : p.at ≡ q.at = cc ats in
    let entries : Some p.entry ≡ Some q.entry = sym p.is_entry ∙ ap (λ (a : PinAt). entry_at board a) at ∙ q.is_entry in
    let entry : p.entry ≡ q.entry = cc entries in (
      place,
      p.position_is ∙ ap (λ (a : PinAt). first_position board a.part + p.entry.num) at
          ∙ ap (λ (c : Cell). first_position board q.at.part + c.num) entry ∙ sym q.position_is,
    )

pub driver_within : (board : RawBoard) → IsBoard board → (walk : List Ctl) (d : DriverCell)
    → IsDriverCell board walk d → d.position < data_bits board
driver_within board rules walk d s =
    let t : Standing board d.net s.net d.place s.at = standing board rules d.net s.net d.place s.pin s.at s.is_net s.is_pin s.is_at in
    let drives = drives_by t.device s.at.bit s.entry (sym (entry_on board s.at t.device t.is_device) ∙ s.is_entry) in
    omega (
      arith,
      s.position_is,
      (laid_at (steady board (λ c. false)) board s.at.part t.device s.entry.num t.is_device
          (t.wired.num_below drives.index s.entry drives.stands)).0,
    )

-- rows in which each walk net carries a bit of its own
module _ (board : RawBoard) (rules : IsBoard board) (walk : List Ctl) (cells : CellsOf board walk) where
  abbrev mark_row : (ℕ → Bool) → TestRow
  mark_row f = pass_row walk (λ n. Some (f n))

  abbrev bit : (ℕ → Bool) → DriverCell → Bool
  bit f d = f d.net

  tdi_is : (f : ℕ → Bool)
      → tdi_of board (mark_row f)
      ≡ assigned (λ d. d.position) (bit f) (bits_of_parts (steady board (holds walk)) board)
      cells.drivers
  tdi_is f =
      tdi_laid board (record { now = mark_row f; before = quiet_row })
      ∙ sym (drivers_laid board rules walk (λ n. Some (f n)) (bit f) cells.drivers cells.only cells.every (λ d has. refl))

  pub length-tdi : (row : TestRow) → length (tdi_of board row) ≡ data_bits board
  length-tdi row =
      ap (λ (l : List Bool). length l) (tdi_laid board (record { now = row; before = quiet_row }))
      ∙ length-laid (row_cells board row) board

  tdi_differ : (f g : ℕ → Bool) (i : ℕ)
      → (get_or (tdi_of board (mark_row f)) i false ≡ get_or (tdi_of board (mark_row g)) i false)
      ⊎ ((d : DriverCell) × Has cells.drivers d × (d.position ≡ i) × (f d.net ≡ g d.net → ⊥))
  tdi_differ f g i = by_case (apart_at (λ (d : DriverCell). d.position) (bit f) (bit g) cells.drivers start start i refl (inl refl))
    where
      start : List Bool
      start = bits_of_parts (steady board (holds walk)) board

      by_case :
          (get_or (assigned (λ d. d.position) (bit f) start cells.drivers) i false
          ≡ get_or (assigned (λ d. d.position) (bit g) start cells.drivers) i false)
          ⊎ ((d : DriverCell) × Has cells.drivers d × (d.position ≡ i) × (f d.net ≡ g d.net → ⊥)) →
          (get_or (tdi_of board (mark_row f)) i false ≡ get_or (tdi_of board (mark_row g)) i false)
          ⊎ ((d : DriverCell) × Has cells.drivers d × (d.position ≡ i) × (f d.net ≡ g d.net → ⊥))
      by_case (inl e) =
          inl
          (ap (λ (l : List Bool). get_or l i false) (tdi_is f) ∙ e
          ∙ sym (ap (λ (l : List Bool). get_or l i false) (tdi_is g)))
      by_case (inr d) = inr d

  tdi_at : (f : ℕ → Bool) (d : DriverCell) → IsDriverCell board walk d
      → (d.position < length (tdi_of board (mark_row f)))
      × (get_or (tdi_of board (mark_row f)) d.position false ≡ f d.net)
  tdi_at f d s = (within, value)
    where
      within : d.position < length (tdi_of board (mark_row f))
      within = omega (arith, driver_within board rules walk d s, length-tdi (mark_row f))

      -- the place and the bit of a driver cell
      one : DriverCell → ℕ × Bool
      one x = (x.position, f x.net)

      value : get_or (tdi_of board (mark_row f)) d.position false ≡ f d.net
      value =
          let t : Standing board d.net s.net d.place s.at = standing board rules d.net s.net d.place s.pin s.at s.is_net s.is_pin s.is_at in
          let drives = drives_by t.device s.at.bit s.entry (sym (entry_on board s.at t.device t.is_device) ∙ s.is_entry) in
          let below = t.wired.num_below drives.index s.entry drives.stands in
          ap (λ (l : List Bool). get_or l d.position false) (tdi_laid board (record { now = mark_row f; before = quiet_row }))
          ∙ ap (λ (i : ℕ). get_or (bits_of_parts (row_cells board (mark_row f)) board) i false) s.position_is
          ∙ (laid_at (row_cells board (mark_row f)) board s.at.part t.device s.entry.num t.is_device below).1
          ∙ ap
          (λ (o : Option Cell). unwrap_or
          (Rattle.std.specs.Prelude.option_and_then
          (λ e. Rattle.tap_defs.specs.board.TestRows.data_pin board (mark_row f)
          s.at.part e.bit) o) off)
          (Rattle.plan_tables.proofs.PinLemmas.driving_cell_is t.device t.wired s.at.bit s.entry
          drives)
          ∙ ap
          (λ (o : Option ℕ). unwrap_or
          (Rattle.tap_defs.specs.board.TestRows.data_pin board (mark_row f) s.at.part o) off)
          drives.bit_is
          ∙ ap
          (λ (o : Option Rattle.tap_defs.specs.board.NetBits.Place). unwrap_or
          (Rattle.tap_defs.specs.board.TestRows.data_place board (mark_row f) o) off) t.is_place
          ∙ ap (λ (o : Option ℕ). unwrap_or (Rattle.tap_defs.specs.board.TestRows.data_observed (Some (f d.net)) d.place o) off) s.observing
          ∙ ap (λ (b : Bool). unwrap_or (Rattle.tap_defs.specs.board.TestRows.only_if b (Some (f d.net))) off) (eq-eqb d.place d.place refl)
        where
          off : Bool
          off =
              Rattle.tap_defs.specs.board.TestRows.steady_bit board (holds walk) s.at.part
              (standing board rules d.net s.net d.place s.pin s.at s.is_net s.is_pin s.is_at).device
              s.entry.num

  pub marked_row : (f : ℕ → Bool) (d : DriverCell) → IsDriverCell board walk d → f d.net ≡ true
      → ((n : ℕ) → WalkedBy board walk n → f n ≡ true → n ≡ d.net)
      → set (tdi_of board (still_row walk)) d.position true ≡ tdi_of board (mark_row f)
  marked_row f d s on alone =
      assigned_is (λ (x : DriverCell). x.position) (λ x. true) (d ∷ [])
      (tdi_of board (still_row walk)) (tdi_of board (mark_row f))
      (length-tdi (still_row walk) ∙ sym (length-tdi (mark_row f)))
      (λ x has. by_item x has)
      (λ i less. by_place i (tdi_differ (λ n. false) f i))
    where
      by_item : (x : DriverCell) → Has (d ∷ []) x
          → (x.position < length (tdi_of board (mark_row f)))
          × (get_or (tdi_of board (mark_row f)) x.position false ≡ true)
      by_item x (inl e) =
          let r = tdi_at f d s in
          subst
          (λ (y : DriverCell). (y.position < length (tdi_of board (mark_row f)))
          × (get_or (tdi_of board (mark_row f)) y.position false ≡ true)) e (r.0, r.1 ∙ on)
      by_item x (inr none) = absurd none

      true_of : (b : Bool) → (false ≡ b → ⊥) → b ≡ true
      true_of true ne = refl
      true_of false ne = absurd (ne refl)

      by_place : (i : ℕ)
          → (get_or (tdi_of board (mark_row (λ n. false))) i false
          ≡ get_or (tdi_of board (mark_row f)) i false)
          ⊎ ((x : DriverCell) × Has cells.drivers x × (x.position ≡ i) × (false ≡ f x.net → ⊥)) →
          (get_or (tdi_of board (still_row walk)) i false
          ≡ get_or (tdi_of board (mark_row f)) i false)
          ⊎ ((x : DriverCell) × Has (d ∷ []) x × (x.position ≡ i))
      by_place i (inl e) = inl e
      by_place i (inr (x, has, at, ne)) =
          let q = cells.only x has in
          let same : x.net
          ≡ d.net = alone x.net
          (record
          { net = q.net; is_net = q.is_net; driver = x.place; observing = q.observing })
          (true_of (f x.net) ne) in
          inr (d, inl refl, sym (one_driver board walk x d q s same).1 ∙ at)

  pub cleared_row : {X : Type 0} (place : X → ℕ) (xs : List X) (f : ℕ → Bool)
      → ((x : X) → Has xs x → (d : DriverCell) × IsDriverCell board walk d × (place x ≡ d.position))
      → ((d : DriverCell) → IsDriverCell board walk d → (x : X) × Has xs x × (place x ≡ d.position))
      →
      assigned place (λ x. false) (tdi_of board (mark_row f)) xs ≡ tdi_of board (still_row walk)
  cleared_row {X} place xs f right cover =
      assigned_is place (λ x. false) xs (tdi_of board (mark_row f)) (tdi_of board (still_row walk))
      (length-tdi (mark_row f) ∙ sym (length-tdi (still_row walk)))
      (λ x has. let r = right x has in
      let v = tdi_at (λ n. false) r.0 r.1 in
      (omega (arith, v.0, r.2), ap (λ (i : ℕ). get_or (tdi_of board (still_row walk)) i false) r.2 ∙ v.1))
      (λ i less. by_place i (tdi_differ f (λ n. false) i))
    where
      by_place : (i : ℕ)
          → (get_or (tdi_of board (mark_row f)) i false
          ≡ get_or (tdi_of board (mark_row (λ n. false))) i false)
          ⊎ ((d : DriverCell) × Has cells.drivers d × (d.position ≡ i) × (f d.net ≡ false → ⊥)) →
          (get_or (tdi_of board (mark_row f)) i false
          ≡ get_or (tdi_of board (still_row walk)) i false)
          ⊎ ((x : X) × Has xs x × (place x ≡ i))
      by_place i (inl e) = inl e
      by_place i (inr (d, has, at, ne)) = let c = cover d (cells.only d has) in inr (c.0, c.1, c.2 ∙ at)

  -- the row of zeros from which the compared bits are set
  abbrev zeros : List Bool
  zeros = bits_of_parts (λ part device cell. false) board

  zeros_at : (i : ℕ) → get_or zeros i false ≡ true → ⊥
  zeros_at i e = by_side (cases_lt i (data_bits board))
    where
      here : get_or (replicate (data_bits board) false) i false ≡ true
      here = ap (λ (l : List Bool). get_or l i false) (zeros_laid board) ∙ e

      by_side : (i < data_bits board) ⊎ (data_bits board ≤ i) → ⊥
      by_side (inl less) =
          both_ways (get_or (replicate (data_bits board) false) i false)
          (get_or-replicate (data_bits board) i false false less) here
      by_side (inr past) =
          both_ways (get_or (replicate (data_bits board) false) i false)
          (get_or_past (replicate (data_bits board) false) i false
          (omega (arith, past, length-replicate (data_bits board) false))) here

  pub mask_is : (f : ℕ → Bool)
      → mask_of board (mark_row f)
      ≡ assigned (λ (x : Pair). x.1.position) (λ x. true) zeros
      (pairs cells.readers cells.drivers)
  mask_is f =
      mask_laid board (record { now = quiet_row; before = mark_row f })
      ∙ sym
      (mask_compared board rules walk (λ n. Some (f n)) (bit f) cells.drivers cells.only
      cells.every (λ d has. refl) cells.readers cells.are)

  pub mask_same : (f g : ℕ → Bool) → mask_of board (mark_row f) ≡ mask_of board (mark_row g)
  mask_same f g = mask_is f ∙ sym (mask_is g)

  tdo_is : (f : ℕ → Bool)
      → tdo_of board (mark_row f)
      ≡ assigned (λ (x : Pair). x.1.position) (λ x. bit f x.0) zeros
      (pairs cells.readers cells.drivers)
  tdo_is f =
      tdo_laid board (record { now = quiet_row; before = mark_row f })
      ∙ sym
      (tdo_compared board rules walk (λ n. Some (f n)) (bit f) cells.drivers cells.only
      cells.every (λ d has. refl) cells.readers cells.are)

  -- `position` is the position of a compared cell. This is an INPUT, CLOCK or BIDIR cell of a receiver on an observed net. It is not on the
  -- pin of the driver by which the setting observes the net.
  pub record ComparedAt (position : ℕ) : Type 0 where
    pub driver : DriverCell
    pub is_driver : IsDriverCell board walk driver
    pub reader : ReaderCell
    pub is_reader : IsReaderCell board is_driver.net reader
    pub other : (reader.place == driver.place) ≡ false
    pub position_is : reader.position ≡ position

  of_pair : (x : Pair) (i : ℕ) → Has (pairs cells.readers cells.drivers) x → x.1.position ≡ i → (c : ComparedAt i) × (c.driver ≡ x.0)
  of_pair x i has at =
      let r = flat_map_has (λ (d : DriverCell). pairs_of d (get_or cells.readers d.net [])) cells.drivers x has in
      let p = pair_has r.0 (get_or cells.readers r.0.net []) x r.2 in
      let s = cells.only r.0 r.1 in (
        record {
          driver = r.0;
          is_driver = s;
          reader = x.1;
          is_reader = (cells.are r.0.net s.net s.is_net).0 x.1 p.reader_in;
          other = ap (λ (d : DriverCell). x.1.place == d.place) (sym p.driver_is) ∙ p.other;
          position_is = at;
        },
        sym p.driver_is,
      )

  pub compared_at : (f : ℕ → Bool) (i : ℕ) → get_or (mask_of board (mark_row f)) i false ≡ true → ComparedAt i
  compared_at f i e =
      by_case
      (mark_has (λ (x : Pair). x.1.position) (pairs cells.readers cells.drivers) zeros i
      (sym (ap (λ (l : List Bool). get_or l i false) (mask_is f)) ∙ e))
    where
      by_case : (get_or zeros i false ≡ true) ⊎ ((x : Pair) × Has (pairs cells.readers cells.drivers) x × (x.1.position ≡ i)) → ComparedAt i
      by_case (inl z) = absurd (zeros_at i z)
      by_case (inr (x, has, at)) = (of_pair x i has at).0

  pub one_at : (f : ℕ → Bool) (i : ℕ) → get_or (tdo_of board (mark_row f)) i false ≡ true → (c : ComparedAt i) × (f c.driver.net ≡ true)
  one_at f i e =
      by_case
      (one_from (λ (x : Pair). x.1.position) (λ x. bit f x.0) (pairs cells.readers cells.drivers)
      zeros i (sym (ap (λ (l : List Bool). get_or l i false) (tdo_is f)) ∙ e))
    where
      by_case : (get_or zeros i false ≡ true)
          ⊎ ((x : Pair) × Has (pairs cells.readers cells.drivers) x × (x.1.position ≡ i)
          × (bit f x.0 ≡ true)) → (c : ComparedAt i) × (f c.driver.net ≡ true)
      by_case (inl z) = absurd (zeros_at i z)
      by_case (inr (x, has, at, on)) = let c = of_pair x i has at in (c.0, ap (λ (d : DriverCell). f d.net) c.1 ∙ on)

-- a compared cell of a walk net, in any row of the walking test
module _ (board : RawBoard) (rules : IsBoard board) (walk : List Ctl) (n : ℕ) (net : Net)
    (is_net : slice_get board.nets n ≡ Some net) (d : ℕ)
    (observing : observing_driver board (holds walk) net ≡ Some d) (r : ReaderCell)
    (q : IsReaderCell board net r) (other : (r.place == d) ≡ false) where
  abbrev c : Compared board (holds walk) n net
  c = compared_of board rules walk n net is_net d observing r q other

  pub laid_here : (g : ℕ → RawDevice → ℕ → Bool)
      → (r.position < data_bits board)
      × (get_or (bits_of_parts g board) r.position false ≡ g c.k c.device c.cell)
  laid_here g =
      let l = laid_at g board c.k c.device c.cell (compared_device board rules walk n net is_net d observing r q other) c.below in
      let at = compared_position board rules walk n net is_net d observing r q other in
      (omega (arith, l.0, at), ap (λ (i : ℕ). get_or (bits_of_parts g board) i false) at ∙ l.1)

  pub mask_here : (f : ℕ → Bool) → get_or (mask_of board (pass_row walk (λ m. Some (f m)))) r.position false ≡ true
  mask_here f =
      ap (λ (l : List Bool). get_or l r.position false)
      (mask_laid board (record { now = quiet_row; before = pass_row walk (λ m. Some (f m)) }))
      ∙ (laid_here (λ part device cell. is_some (expect_bit board (pass_row walk (λ m. Some (f m))) part device cell))).1
      ∙ ap (λ (o : Option Bool). is_some o) (expects board (pass_row walk (λ m. Some (f m))) n net c)

  pub tdo_here : (f : ℕ → Bool) → get_or (tdo_of board (pass_row walk (λ m. Some (f m)))) r.position false ≡ f n
  tdo_here f =
      ap (λ (l : List Bool). get_or l r.position false)
      (tdo_laid board (record { now = quiet_row; before = pass_row walk (λ m. Some (f m)) }))
      ∙ (laid_here (λ part device cell. unwrap_or (expect_bit board (pass_row walk (λ m. Some (f m))) part device cell) false)).1
      ∙ ap (λ (o : Option Bool). unwrap_or o false) (expects board (pass_row walk (λ m. Some (f m))) n net c)

beside_positions : (place : ℕ) (readers : List ReaderCell) (position : ℕ)
    → Has (positions_beside place readers) position
    → (r : ReaderCell) × Has readers r × ((r.place == place) ≡ false) × (r.position ≡ position)
beside_positions place readers position h =
    let m = map_has (λ (r : ReaderCell). r.position) (filter (λ r. not (r.place == place)) readers) position h in
    let f = filter_has (λ (r : ReaderCell). not (r.place == place)) readers m.0 m.1 in
    (m.0, f.0, not-true (m.0.place == place) f.1, m.2)

positions_has : (place : ℕ) (readers : List ReaderCell) (r : ReaderCell) → Has readers r
    → (r.place == place) ≡ false → Has (positions_beside place readers) r.position
positions_has place readers r h other =
    has_map (λ (x : ReaderCell). x.position) (filter (λ x. not (x.place == place)) readers) r
    (has_filter (λ (x : ReaderCell). not (x.place == place)) readers r h (ap not other))

some_items : {X : Type 0} (xs : List X) (x : X) → Has xs x → 0 < length xs
some_items [] x h = absurd h
some_items (y ∷ xs) x h = omega arith

pub net_cells : (board : RawBoard) (walk : List Ctl) (n : ℕ) (w : WalkedBy board walk n)
    (position : ℕ) (readers : List ReaderCell)
    → ((r : ReaderCell) → Has readers r → IsReaderCell board w.net r)
    → ((r : ReaderCell) → IsReaderCell board w.net r → Has readers r) →
    ((d : DriverCell) → IsDriverCell board walk d → d.net ≡ n → position ≡ d.position) →
    AreNetCells board walk n (record { driver = position; compared = positions_beside w.driver readers })
net_cells board walk n w position readers only every at =
    let d = driver_cell board walk n w.net w.driver w.is_net w.observing in
    record {
      net = w.net;
      is_net = w.is_net;
      driver = d.0;
      is_driver = d.1;
      of_net = d.2;
      driver_is = at d.0 d.1 d.2;
      compared = λ p. (
        λ has.
            let b = beside_positions w.driver readers p (contains_has (positions_beside w.driver readers) p has) in
            (b.0, only b.0 b.1, ap (λ (i : ℕ). b.0.place == i) d.3 ∙ b.2, b.3),
        λ r.
            let other : (r.0.place == w.driver) ≡ false = sym (ap (λ (i : ℕ). r.0.place == i) d.3) ∙ r.2 in
            has_contains (positions_beside w.driver readers) p
            (subst (λ (i : ℕ). Has (positions_beside w.driver readers) i) r.3
            (positions_has w.driver readers r.0 (every r.0 r.1) other)),
      );
      some =
          some_items (positions_beside w.driver readers) first.0.position
          (positions_has w.driver readers first.0 (every first.0 first.1) first.2);
    }
  where
    first : (r : ReaderCell) × IsReaderCell board w.net r × ((r.place == w.driver) ≡ false)
    first =
        let beside : reads_beside board w.driver 0 w.net.pins ≡ true = beside_observing board (holds walk) w.net w.driver w.observing in
        let a = any_has (λ (r : ReaderCell). not (r.place == w.driver))
        (readers_in_order board w.net.pins) (beside_is board w.driver 0 w.net.pins ∙ beside) in
        (a.0, reader_is board w.net a.0 a.1, not_false (a.0.place == w.driver) a.2)
      where
        not_false : (b : Bool) → not b ≡ true → b ≡ false
        not_false true e = cc e
        not_false false e = refl

pub cells_there : (board : RawBoard) (walk : List Ctl) (n : ℕ) → WalkedBy board walk n → (cells : NetCells) × AreNetCells board walk n cells
cells_there board walk n w =
    let d = driver_cell board walk n w.net w.driver w.is_net w.observing in
    let readers : List ReaderCell = readers_in_order board w.net.pins in (
      record { driver = d.0.position; compared = positions_beside w.driver readers },
      net_cells board walk n w d.0.position readers (λ r h. reader_is board w.net r h) (λ r q. is_reader board w.net r q)
          (λ e is_e of_e. (one_driver board walk d.0 e d.1 is_e (d.2 ∙ sym of_e)).1),
    )
