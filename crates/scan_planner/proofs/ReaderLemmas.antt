-- Lemmas about the compared cells of a row. These are the cells of receivers on the nets that the pass
-- observes, except the cells on the drivers' own pins.
use Rattle.std.proofs.Common.{◌≡◌, ℕ, ◌+◌, ◌==◌, Bool, true, false, not, cond, ◌&&◌, List, [], ◌∷◌, Option, Some, None, is_some, unwrap_or, get_or, set, refl, sym, ap, ◌∙◌, subst, arith, ◌⊎◌, inl, inr}
use Rattle.std.specs.Prelude.{slice_get}
use Rattle.std.specs.List.{flat_map}
use Rattle.std.proofs.lemmas.List.Sums.{fold-append}
use Rattle.std.proofs.lemmas.Bool.{and_parts}
use Rattle.lists.proofs.Booleans.{eqb_swap}
use Rattle.board_defs.specs.declared.device.Cell.{Cell}
use Rattle.board_defs.specs.declared.device.RawDevice.{RawDevice}
use Rattle.board_defs.specs.declared.board.PinAt.{PinAt}
use Rattle.board_defs.specs.declared.board.RawBoard.{RawBoard}
use Rattle.board_defs.specs.declared.board.Ctl.{Ctl}
use Rattle.board_defs.specs.BoardRules.{IsBoard}
use Rattle.board_defs.specs.DeviceRules.{is_on, is_receiving, reading_entry}
use Rattle.board_defs.specs.Pins.{receives_where}
use Rattle.board_defs.specs.Settings.{holds}
use Rattle.board_defs.proofs.Members.{Has, has_at, has_place, contains_has, has_contains, has_flat_map, flat_map_has}
use Rattle.board_defs.proofs.CellLemmas.{on_is}
use Rattle.tap_defs.specs.board.NetBits.{Place, place_of}
use Rattle.tap_defs.specs.board.TestRows.{TestRow, expect_bit, expect_entry, expect_pin, expect_place, expect_observed, only_if, observing_driver}
use Rattle.tap_defs.proofs.board.PassingLemmas.{stands_at}
use Rattle.plan_tables.specs.declared.tables.DriverCell.{DriverCell}
use Rattle.net_pins.specs.declared.nets.ReaderCell.{ReaderCell}
use Rattle.plan_tables.specs.Tables.{first_position, IsDriverCell, IsReaderCell}
use Rattle.plan_tables.specs.inner.Laid.{bits_of_parts}
use Rattle.plan_tables.specs.Assigned.{assigned, set_readers, set_compared}
use Rattle.plan_tables.proofs.LaidLemmas.{CellOf, assigned_laid}
use Rattle.scan_planner.proofs.DriverLemmas.{pass_row}
use Rattle.plan_tables.proofs.PinLemmas.{Standing, standing, on_self, reading_entry_is, Reads, reads_by}
use Rattle.plan_tables.proofs.ReaderTableLemmas.{ReadersOf}
use Rattle.plan_tables.proofs.SeenLemmas.{driver_cell}

-- the driver cell of a net, and a compared cell of the net
abbrev pub Pair : Type 0
Pair = DriverCell × ReaderCell

-- driver cell `d`, paired with each of the cells `readers` that is on a pin other than the driver's pin
abbrev pub pairs_of : DriverCell → List ReaderCell → List Pair
pairs_of d [] = []
pairs_of d (r ∷ readers) = cond (r.place == d.place) (pairs_of d readers) ((d, r) ∷ pairs_of d readers)

pub has_pair : (d : DriverCell) (readers : List ReaderCell) (r : ReaderCell) → Has readers r
    → (r.place == d.place) ≡ false → Has (pairs_of d readers) (d, r)
has_pair d [] r h other = absurd h
has_pair d (s ∷ readers) r (inl e) other =
    let here : (s.place == d.place) ≡ false = ap (λ (x : ReaderCell). x.place == d.place) e ∙ other in
    let P : Bool → Type 0 = λ b. Has (cond b (pairs_of d readers) ((d, s) ∷ pairs_of d readers)) (d, r) in
    subst P (sym here) (inl (ap (λ (x : ReaderCell). (d, x)) e))
has_pair d (s ∷ readers) r (inr h) other = by_test (s.place == d.place) (has_pair d readers r h other)
  where
    by_test : (b : Bool) → Has (pairs_of d readers) (d, r) → Has (cond b (pairs_of d readers) ((d, s) ∷ pairs_of d readers)) (d, r)
    by_test true k = k
    by_test false k = inr k

-- the pair `x` has driver cell `d` and one of `readers`, which reads a pin other than the driver's pin
pub record PairOf (d : DriverCell) (readers : List ReaderCell) (x : Pair) : Type 0 where
  pub driver_is : x.0 ≡ d
  pub reader_in : Has readers (x.1)
  pub other : (x.1.place == x.0.place) ≡ false

pub pair_has : (d : DriverCell) (readers : List ReaderCell) (x : Pair) → Has (pairs_of d readers) x → PairOf d readers x
pair_has d [] x h = absurd h
pair_has d (s ∷ readers) x h = by_test (pair_has d readers x) (s.place == d.place) refl h
  where
    later : PairOf d readers x → PairOf d (s ∷ readers) x
    later r = record { driver_is = r.driver_is; reader_in = inr r.reader_in; other = r.other }

    by_test : (Has (pairs_of d readers) x → PairOf d readers x) → (b : Bool)
        → (s.place == d.place) ≡ b
        → Has (cond b (pairs_of d readers) ((d, s) ∷ pairs_of d readers)) x
        → PairOf d (s ∷ readers) x
    by_test ih true e k = later (ih k)
    by_test ih false e (inl same) =
        subst (λ (y : Pair). PairOf d (s ∷ readers) y) same
        (record { driver_is = refl; reader_in = inl refl; other = e })
    by_test ih false e (inr k) = later (ih k)

-- the pairs of all these driver cells
abbrev pub pairs : List (List ReaderCell) → List DriverCell → List Pair
pairs readers drivers = flat_map (λ d. pairs_of d (get_or readers d.net [])) drivers

set_one : (bit : DriverCell → Bool) (d : DriverCell) (readers : List ReaderCell) (bits : List Bool) →
    set_readers d.place (bit d) bits readers ≡ assigned (λ (x : Pair). x.1.position) (λ x. bit x.0) bits (pairs_of d readers)
set_one bit d [] bits = refl
set_one bit d (r ∷ readers) bits = by_test (set_one bit d readers) (r.place == d.place)
  where
    by_test :
        ((start : List Bool)
        → set_readers d.place (bit d) start readers
        ≡ assigned (λ (x : Pair). x.1.position) (λ x. bit x.0) start (pairs_of d readers)) →
        (b : Bool) → set_readers d.place (bit d) (cond b bits (set bits r.position (bit d))) readers
        ≡ assigned (λ (x : Pair). x.1.position) (λ x. bit x.0) bits (cond b (pairs_of d readers) ((d, r) ∷ pairs_of d readers))
    by_test ih true = ih bits
    by_test ih false = ih (set bits r.position (bit d))

pub set_compared_is : (bit : DriverCell → Bool) (readers : List (List ReaderCell)) (drivers : List DriverCell) (bits : List Bool) →
    set_compared bit readers bits drivers ≡ assigned (λ (x : Pair). x.1.position) (λ x. bit x.0) bits (pairs readers drivers)
set_compared_is bit readers [] bits = refl
set_compared_is bit readers (d ∷ drivers) bits =
    set_compared_is bit readers drivers (set_readers d.place (bit d) bits (get_or readers d.net []))
    ∙ ap
    (λ (b : List Bool). assigned (λ (x : Pair). x.1.position) (λ x. bit x.0) b
    (pairs readers drivers)) (set_one bit d (get_or readers d.net []) bits)
    ∙ sym
    (fold-append (λ done (x : Pair). set done x.1.position (bit x.0)) bits
    (pairs_of d (get_or readers d.net [])) (pairs readers drivers))

module _ (board : RawBoard) (rules : IsBoard board) (pass : List Ctl) (carried : ℕ → Option Bool)
    (bit : DriverCell → Bool) (drivers : List DriverCell)
    (only : (d : DriverCell) → Has drivers d → IsDriverCell board pass d)
    (every : (d : DriverCell) → IsDriverCell board pass d → Has drivers d)
    (carries : (d : DriverCell) → Has drivers d → carried d.net ≡ Some (bit d))
    (readers : List (List ReaderCell)) (are : ReadersOf board readers) where
  abbrev row : TestRow
  row = pass_row pass carried

  -- the row compares the cell of the pair with the bit of the pair's driver
  record Expects (x : Pair) : Type 0 where
    at : PinAt
    device : RawDevice
    cell : ℕ
    is_cell : CellOf board at.part device cell
    place_is : x.1.position ≡ first_position board at.part + cell
    expects : expect_bit board row at.part device cell ≡ Some (bit x.0)

  expects_by : (d : DriverCell) → Has drivers d → (x : Pair) → PairOf d (get_or readers d.net []) x → Expects x
  expects_by d has x p = by_driver (x.0) (x.1) p.driver_is p.reader_in p.other
    where
      by_driver : (e : DriverCell) (r : ReaderCell) → e ≡ d → Has (get_or readers d.net []) r
          → (r.place == e.place) ≡ false → Expects (e, r)
      by_driver e r same in_readers other = subst (λ (y : DriverCell). Expects (y, r)) (sym same) here
        where
          others : (r.place == d.place) ≡ false
          others = sym (ap (λ (y : DriverCell). r.place == y.place) same) ∙ other

          s : IsDriverCell board pass d
          s = only d has

          q : IsReaderCell board s.net r
          q = (are d.net s.net s.is_net).0 r in_readers

          t : Standing board d.net s.net r.place q.at
          t = standing board rules d.net s.net r.place q.pin q.at s.is_net q.is_pin q.is_at

          here : Expects (d, r)
          here =
              let two : Some q.device ≡ Some t.device = sym q.is_device ∙ t.is_device in
              let same_device : q.device ≡ t.device = cc two in
              let place = has_place q.device.cells q.entry (contains_has q.device.cells q.entry q.is_entry) in
              let stands : slice_get t.device.cells place.0
              ≡ Some q.entry = subst
              (λ (v : RawDevice). slice_get v.cells place.0 ≡ Some q.entry) same_device
              place.1 in
              let parts = and_parts (is_on q.at.bit q.entry.bit) (is_receiving q.entry.role) q.reads in
              record {
                at = q.at;
                device = t.device;
                cell = q.entry.num;
                is_cell = record { is_device = t.is_device; below = t.read.num_below place.0 q.entry stands };
                place_is = q.position_is;
                expects =
                    ap (λ (o : Option Cell). expect_entry board row q.at.part o)
                    (reading_entry_is t.device t.read place.0 q.entry stands parts.1)
                    ∙ ap (λ (b : Bool). cond b (expect_pin board row q.at.part q.entry.bit) None) parts.1
                    ∙ ap (λ (o : Option ℕ). expect_pin board row q.at.part o) (on_is q.at.bit q.entry.bit parts.0)
                    ∙ ap (λ (b : Bool). cond b (expect_place board row (place_of q.at 0 board.nets)) None) q.receives
                    ∙ ap (λ (o : Option Place). expect_place board row o) t.is_place
                    ∙ ap (λ (o : Option ℕ). expect_observed (carried d.net) r.place o) s.observing
                    ∙ ap (λ (b : Bool). only_if (not b) (carried d.net)) (eqb_swap r.place d.place others)
                    ∙ carries d has;
              }

  pair_expects : (x : Pair) → Has (pairs readers drivers) x → Expects x
  pair_expects x h =
      let r = flat_map_has (λ d. pairs_of d (get_or readers d.net [])) drivers x h in
      expects_by r.0 r.1 x (pair_has r.0 (get_or readers r.0.net []) x r.2)

  -- the row does not compare the cell, or the cell is in a pair
  abbrev Covered : ℕ → ℕ → Option Bool → Type 0
  Covered part cell o = (o ≡ None) ⊎ ((x : Pair) × Has (pairs readers drivers) x × (x.1.position ≡ first_position board part + cell))

  covers : (part : ℕ) (device : RawDevice) (cell : ℕ) → CellOf board part device cell
      → Covered part cell (expect_bit board row part device cell)
  covers part device cell c = by_entry (reading_entry device cell) refl
    where
      by_test : (e : Cell) (b : ℕ) (p : Place) (driver : ℕ) → reading_entry device cell ≡ Some e
          → is_receiving e.role ≡ true → e.bit ≡ Some b →
          receives_where board (Some (record { part = part; bit = b })) ≡ true →
          place_of (record { part = part; bit = b }) 0 board.nets ≡ Some p → observing_driver board (holds pass) p.net ≡ Some driver →
          (t : Bool) → (driver == p.place) ≡ t → Covered part cell (only_if (not t) (carried p.number))
      by_test e b p driver ee er eb es ep eo true t = inl refl
      by_test e b p driver ee er eb es ep eo false t =
          let at : PinAt = record { part = part; bit = b } in
          let s = stands_at board at p 0 board.nets ep in
          let n : s.index ≡ p.number = omega (arith, s.number_is) in
          let is_net : slice_get board.nets p.number ≡ Some p.net = subst (λ (i : ℕ). slice_get board.nets i ≡ Some p.net) n s.net_is in
          let reads : Reads device cell e = reads_by device cell e ee in
          let r : ReaderCell = record { place = p.place; position = first_position board part + cell } in
          let is_reader : IsReaderCell board p.net r = record {
            pin = s.pin;
            is_pin = s.pin_is;
            at = at;
            is_at = s.at_is;
            receives = es;
            device = device;
            is_device = c.is_device;
            entry = e;
            is_entry = has_contains device.cells e (has_at device.cells reads.index e reads.stands);
            reads = ap (λ (x : Bool). x && is_receiving e.role) (on_self b e.bit eb) ∙ er;
            position_is = ap (λ (i : ℕ). first_position board part + i) (sym reads.num_is);
          } in
          by_driver p driver r is_net is_reader eo (eqb_swap driver p.place t) refl
        where
          use_driver : (p : Place) (d : DriverCell) → d.net ≡ p.number → Has drivers d
              → (r : ReaderCell) → Has (get_or readers p.number []) r → (r.place == d.place) ≡ false
              →
              r.position ≡ first_position board part + cell → Covered part cell (only_if true (carried p.number))
          use_driver p d same has r in_readers other position =
              let in_own : Has (get_or readers d.net []) r = subst (λ (i : ℕ). Has (get_or readers i []) r) (sym same) in_readers in
              inr (
                (d, r),
                has_flat_map (λ e. pairs_of e (get_or readers e.net [])) drivers d (d, r) has
                    (has_pair d (get_or readers d.net []) r in_own other),
                position,
              )

          by_driver : (p : Place) (driver : ℕ) (r : ReaderCell) → slice_get board.nets p.number ≡ Some p.net → IsReaderCell board p.net r →
              observing_driver board (holds pass) p.net ≡ Some driver → (r.place == driver) ≡ false
              → r.position ≡ first_position board part + cell
              → Covered part cell (only_if true (carried p.number))
          by_driver p driver r is_net is_reader eo other position =
              let f = driver_cell board pass p.number p.net driver is_net eo in
              let others : (r.place == f.0.place) ≡ false = ap (λ (i : ℕ). r.place == i) f.3 ∙ other in
              use_driver p f.0 f.2 (every f.0 f.1) r ((are p.number p.net is_net).1 r is_reader) others position

      by_driver : (e : Cell) (b : ℕ) (p : Place) → reading_entry device cell ≡ Some e → is_receiving e.role ≡ true → e.bit ≡ Some b →
          receives_where board (Some (record { part = part; bit = b })) ≡ true →
          place_of (record { part = part; bit = b }) 0 board.nets ≡ Some p →
          (o : Option ℕ) → observing_driver board (holds pass) p.net ≡ o → Covered part cell (expect_observed (carried p.number) p.place o)
      by_driver e b p ee er eb es ep None eo = inl refl
      by_driver e b p ee er eb es ep (Some driver) eo = by_test e b p driver ee er eb es ep eo (driver == p.place) refl

      by_place : (e : Cell) (b : ℕ) → reading_entry device cell ≡ Some e → is_receiving e.role ≡ true → e.bit ≡ Some b →
          receives_where board (Some (record { part = part; bit = b })) ≡ true →
          (o : Option Place) → place_of (record { part = part; bit = b }) 0 board.nets ≡ o → Covered part cell (expect_place board row o)
      by_place e b ee er eb es None ep = inl refl
      by_place e b ee er eb es (Some p) ep = by_driver e b p ee er eb es ep (observing_driver board (holds pass) p.net) refl

      by_receives : (e : Cell) (b : ℕ) → reading_entry device cell ≡ Some e → is_receiving e.role ≡ true → e.bit ≡ Some b →
          (t : Bool) → receives_where board (Some (record { part = part; bit = b })) ≡ t
          → Covered part cell
          (cond t
          (expect_place board row
          (place_of (record { part = part; bit = b }) 0 board.nets)) None)
      by_receives e b ee er eb true es = by_place e b ee er eb es (place_of (record { part = part; bit = b }) 0 board.nets) refl
      by_receives e b ee er eb false es = inl refl

      by_bit : (e : Cell) → reading_entry device cell ≡ Some e → is_receiving e.role ≡ true
          → (o : Option ℕ) → e.bit ≡ o → Covered part cell (expect_pin board row part o)
      by_bit e ee er None eb = inl refl
      by_bit e ee er (Some b) eb = by_receives e b ee er eb (receives_where board (Some (record { part = part; bit = b }))) refl

      by_role : (e : Cell) → reading_entry device cell ≡ Some e → (t : Bool)
          → is_receiving e.role ≡ t
          → Covered part cell (cond t (expect_pin board row part e.bit) None)
      by_role e ee true er = by_bit e ee er e.bit refl
      by_role e ee false er = inl refl

      by_entry : (o : Option Cell) → reading_entry device cell ≡ o → Covered part cell (expect_entry board row part o)
      by_entry None ee = inl refl
      by_entry (Some e) ee = by_role e ee (is_receiving e.role) refl

  -- The expected bits are 0, except that the compared cell of each pair has the bit of the pair's driver. The mask is 0, except for a 1 at
  -- each of these compared cells.
  pub tdo_compared : assigned (λ (x : Pair). x.1.position) (λ x. bit x.0)
      (bits_of_parts (λ part device cell. false) board) (pairs readers drivers)
      ≡ bits_of_parts (λ part device cell. unwrap_or (expect_bit board row part device cell) false) board
  tdo_compared =
      assigned_laid (λ (x : Pair). x.1.position) (λ x. bit x.0) (pairs readers drivers) board
      (λ part device cell. false)
      (λ part device cell. unwrap_or (expect_bit board row part device cell) false)
      (λ x h. let e = pair_expects x h in
      record {
        part = e.at.part;
        device = e.device;
        cell = e.cell;
        is_cell = e.is_cell;
        place_is =
            e.place_is;
        bit_is = ap (λ (o : Option Bool). unwrap_or o false) e.expects;
      })
      (λ part device cell c. by_covered part device cell (covers part device cell c))
    where
      by_covered : (part : ℕ) (device : RawDevice) (cell : ℕ) → Covered part cell (expect_bit board row part device cell) →
          (false ≡ unwrap_or (expect_bit board row part device cell) false)
          ⊎ ((x : Pair) × Has (pairs readers drivers) x
          × (x.1.position ≡ first_position board part + cell))
      by_covered part device cell (inl e) = inl (sym (ap (λ (o : Option Bool). unwrap_or o false) e))
      by_covered part device cell (inr x) = inr x

  pub mask_compared : assigned (λ (x : Pair). x.1.position) (λ x. true)
      (bits_of_parts (λ part device cell. false) board) (pairs readers drivers)
      ≡ bits_of_parts (λ part device cell. is_some (expect_bit board row part device cell)) board
  mask_compared =
      assigned_laid (λ (x : Pair). x.1.position) (λ x. true) (pairs readers drivers) board
      (λ part device cell. false)
      (λ part device cell. is_some (expect_bit board row part device cell))
      (λ x h. let e = pair_expects x h in
      record {
        part = e.at.part;
        device = e.device;
        cell = e.cell;
        is_cell = e.is_cell;
        place_is =
            e.place_is;
        bit_is = ap (λ (o : Option Bool). is_some o) e.expects;
      })
      (λ part device cell c. by_covered part device cell (covers part device cell c))
    where
      by_covered : (part : ℕ) (device : RawDevice) (cell : ℕ) → Covered part cell (expect_bit board row part device cell) →
          (false ≡ is_some (expect_bit board row part device cell))
          ⊎ ((x : Pair) × Has (pairs readers drivers) x
          × (x.1.position ≡ first_position board part + cell))
      by_covered part device cell (inl e) = inl (sym (ap (λ (o : Option Bool). is_some o) e))
      by_covered part device cell (inr x) = inr x
