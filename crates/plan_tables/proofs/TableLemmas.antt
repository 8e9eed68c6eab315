-- Proofs that the tables that the code makes have the contents that the definitions require.
use Rattle.std.proofs.Common.{◌≡◌, ℕ, zero, suc, ◌+◌, ◌==◌, Bool, true, false, not, cond, ◌&&◌, ◌||◌, List, [], ◌∷◌, ◌++◌, map, Option, Some, None, refl, sym, ap, ◌∙◌, subst, arith, ◌⊎◌, inl, inr}
use Rattle.std.specs.Option.{option_to_list}
use Rattle.std.specs.Prelude.{slice_get, option_and_then, option_map, filter}
use Rattle.std.specs.List.{list_any}
use Rattle.std.proofs.lemmas.Bool.{and_parts}
use Rattle.std.proofs.lemmas.List.Folds.{list_any-append}
use Rattle.std.proofs.Math.Bool.{and-false, and-true}
use Rattle.board_defs.specs.declared.device.Control.{Control}
use Rattle.board_defs.specs.declared.device.PortBit.{PortBit}
use Rattle.board_defs.specs.declared.device.Cell.{Cell}
use Rattle.board_defs.specs.declared.device.RawDevice.{RawDevice}
use Rattle.board_defs.specs.declared.board.PinAt.{PinAt}
use Rattle.board_defs.specs.declared.board.NetPin.{NetPin}
use Rattle.board_defs.specs.declared.board.Net.{Net}
use Rattle.board_defs.specs.declared.board.RawBoard.{RawBoard}
use Rattle.board_defs.specs.DeviceRules.{reads_bit, may_receive}
use Rattle.board_defs.specs.Pins.{device_at, entry_at, guarded, receives, receives_where, receives_in, receives_bit}
use Rattle.board_defs.specs.Settings.{Enabling, enables, enables_where, enables_entry, enables_by}
use Rattle.board_defs.proofs.Members.{Has, has_at, has_contains, contains_has, has_left, has_right, has_append, has_map, map_has, has_filter, filter_has}
use Rattle.board_defs.proofs.Places.{any_place}
use Rattle.tap_defs.specs.board.TestRows.{first_enabled, reads_beside, observing_driver, observing_driver_by}
use Rattle.net_pins.specs.declared.nets.NetDriver.{NetDriver}
use Rattle.net_pins.specs.declared.nets.ReaderCell.{ReaderCell}
use Rattle.net_pins.specs.NetCells.{gathered, net_driver, driver_of, drivers_of_pins, drivers_of, reader_cell, readers_in, readers_at, readers_of}
use Rattle.net_pins.specs.Enabled.{is_driver_on, enabled_in, observing_of}
use Rattle.plan_tables.specs.Tables.{first_position, IsReaderCell}

pub has_gathered : {X Y : Type 0} (f : ℕ → X → List Y) (k : ℕ) (xs : List X) (y : Y)
    → Has (gathered f k xs) y → (n : ℕ) × (x : X) × (slice_get xs n ≡ Some x) × Has (f (k + n) x) y
has_gathered f k [] y h = absurd h
has_gathered {X} {Y} f k (x ∷ xs) y h = by_part (has_gathered f (suc k) xs y) (has_append (f k x) (gathered f (suc k) xs) y h)
  where
    by_part :
        (Has (gathered f (suc k) xs) y
        → (n : ℕ) × (z : X) × (slice_get xs n ≡ Some z) × Has (f (suc k + n) z) y)
        → Has (f k x) y ⊎ Has (gathered f (suc k) xs) y →
        (n : ℕ) × (z : X) × (slice_get (x ∷ xs) n ≡ Some z) × Has (f (k + n) z) y
    by_part ih (inl here) = let z : k ≡ k + 0 = omega arith in (0, x, refl, subst (λ (m : ℕ). Has (f m x) y) z here)
    by_part ih (inr later) =
        let r = ih later in
        let z : suc k + r.0 ≡ k + suc r.0 = omega arith in
        (suc r.0, r.1, r.2, subst (λ (m : ℕ). Has (f m (r.1)) y) z r.3)

pub gathered_has : {X Y : Type 0} (f : ℕ → X → List Y) (k : ℕ) (xs : List X) (n : ℕ) (x : X) (y : Y)
    → slice_get xs n ≡ Some x → Has (f (k + n) x) y → Has (gathered f k xs) y
gathered_has f k [] n x y e h = cc e
gathered_has {X} {Y} f k (z ∷ xs) zero x y e h =
    let same : z ≡ x = cc e in
    let first : k + 0 ≡ k = omega arith in
    has_left (f k z) (gathered f (suc k) xs) y (subst (λ (v : X). Has (f k v) y) (sym same) (subst (λ (m : ℕ). Has (f m x) y) first h))
gathered_has {X} {Y} f k (z ∷ xs) (suc n) x y e h =
    let next : k + suc n ≡ suc k + n = omega arith in
    has_right (f k z) (gathered f (suc k) xs) y (gathered_has f (suc k) xs n x y e (subst (λ (m : ℕ). Has (f m x) y) next h))

pub reader_is : (board : RawBoard) (net : Net) (r : ReaderCell) → Has (readers_of board net.pins) r → IsReaderCell board net r
reader_is board net r h = let g = has_gathered (λ place pin. readers_at board place pin.at) 0 net.pins r h in by_pin (g.0) (g.1) g.2 g.3
  where
    by_device : (n : ℕ) (pin : NetPin) (at : PinAt) → slice_get net.pins n ≡ Some pin
        → pin.at ≡ Some at → receives_where board (Some at) ≡ true →
        (o : Option RawDevice) → device_at board at.part ≡ o → Has (readers_in board (0 + n) at o) r → IsReaderCell board net r
    by_device n pin at e a rec None d k = absurd k
    by_device n pin at e a rec (Some device) d k =
        let m = map_has (reader_cell board at.part (0 + n)) (filter (reads_bit at.bit) device.cells) r k in
        let f = filter_has (reads_bit at.bit) device.cells (m.0) m.1 in
        let z : n ≡ 0 + n = omega arith in
        let place : r.place ≡ n = sym (ap (λ (x : ReaderCell). x.place) m.2) ∙ sym z in
        record {
          pin = pin;
          is_pin = ap (λ (i : ℕ). slice_get net.pins i) place ∙ e;
          at = at;
          is_at = a;
          receives = rec;
          device = device;
          is_device = d;
          entry = m.0;
          is_entry = has_contains device.cells (m.0) f.0;
          reads = f.1;
          position_is = sym (ap (λ (x : ReaderCell). x.position) m.2);
        }

    by_receives : (n : ℕ) (pin : NetPin) (at : PinAt) → slice_get net.pins n ≡ Some pin
        → pin.at ≡ Some at → (t : Bool) → receives_where board (Some at) ≡ t →
        Has (cond t (readers_in board (0 + n) at (device_at board at.part)) []) r → IsReaderCell board net r
    by_receives n pin at e a true rec k = by_device n pin at e a rec (device_at board at.part) refl k
    by_receives n pin at e a false rec k = absurd k

    by_at : (n : ℕ) (pin : NetPin) → slice_get net.pins n ≡ Some pin → (o : Option PinAt)
        → pin.at ≡ o → Has (readers_at board (0 + n) o) r → IsReaderCell board net r
    by_at n pin e None a k = absurd k
    by_at n pin e (Some at) a k = by_receives n pin at e a (receives_where board (Some at)) refl k

    by_pin : (n : ℕ) (pin : NetPin) → slice_get net.pins n ≡ Some pin → Has (readers_at board (0 + n) pin.at) r → IsReaderCell board net r
    by_pin n pin e k = by_at n pin e pin.at refl k

pub is_reader : (board : RawBoard) (net : Net) (r : ReaderCell) → IsReaderCell board net r → Has (readers_of board net.pins) r
is_reader board net r s =
    gathered_has (λ place pin. readers_at board place pin.at) 0 net.pins r.place s.pin r s.is_pin
    (subst (λ (o : Option PinAt). Has (readers_at board (0 + r.place) o) r) (sym s.is_at)
    (subst (λ (t : Bool). Has (cond t (readers_in board (0 + r.place) s.at (device_at board s.at.part)) []) r) (sym s.receives)
    (subst (λ (o : Option RawDevice). Has (readers_in board (0 + r.place) s.at o) r) (sym s.is_device)
    (subst (λ (x : ReaderCell). Has (map (reader_cell board s.at.part (0 + r.place)) (filter (reads_bit s.at.bit) s.device.cells)) x) same
    (has_map (reader_cell board s.at.part (0 + r.place)) (filter (reads_bit s.at.bit) s.device.cells) s.entry
    (has_filter (reads_bit s.at.bit) s.device.cells s.entry (contains_has s.device.cells s.entry s.is_entry) s.reads))))))
  where
    same : reader_cell board s.at.part (0 + r.place) s.entry ≡ r
    same =
        let z : 0 + r.place ≡ r.place = omega arith in
        ap (λ (m : ℕ). let x : ReaderCell = record { place = m; position = first_position board s.at.part + s.entry.num } in x) z
        ∙ ap (λ (m : ℕ). let x : ReaderCell = record { place = r.place; position = m } in x) (sym s.position_is)

-- `d` is the driver on one of these pins, and has the place of that pin, counted from `k`
pub record DriverAt (board : RawBoard) (k : ℕ) (pins : List NetPin) (d : NetDriver) : Type 0 where
  pub index : ℕ
  pub pin : NetPin
  pub stands : slice_get pins index ≡ Some pin
  pub place_is : d.place ≡ k + index
  pub at : PinAt
  pub is_at : pin.at ≡ Some at
  pub entry : Cell
  pub is_entry : entry_at board at ≡ Some entry
  pub position_is : d.position ≡ first_position board at.part + entry.num

abbrev pub FirstOn : RawBoard → Enabling → ℕ → List NetPin → Option NetDriver → Type 0
FirstOn board s k pins None = first_enabled board s k pins ≡ None
FirstOn board s k pins (Some d) = (first_enabled board s k pins ≡ Some d.place) × DriverAt board k pins d

pub on_by : (s : Enabling) (part : ℕ) (o : Option Control)
    → is_driver_on s (option_map (λ control. record { part = part; cell = control.cell }) o)
    ≡ enables_by s part o
on_by s part None = refl
on_by s part (Some control) = refl

abbrev pub pin_drivers : RawBoard → ℕ → List NetPin → List NetDriver
pin_drivers board k pins = gathered (λ place pin. option_to_list (driver_of board place pin.at)) k pins

pub first_on : (board : RawBoard) (s : Enabling) (k : ℕ) (pins : List NetPin)
    → FirstOn board s k pins (enabled_in s (pin_drivers board k pins))
first_on board s k [] = refl
first_on board s k (pin ∷ pins) = by_at pin.at refl (enabled_in s (pin_drivers board (suc k) pins)) refl (first_on board s (suc k) pins)
  where
    rest : List NetDriver
    rest = pin_drivers board (suc k) pins

    later : (o : Option NetDriver) → enables board s pin ≡ false → FirstOn board s (suc k) pins o → FirstOn board s k (pin ∷ pins) o
    later None off r = ap (λ (b : Bool). cond b (Some k) (first_enabled board s (suc k) pins)) off ∙ r
    later (Some d) off r = (
      ap (λ (b : Bool). cond b (Some k) (first_enabled board s (suc k) pins)) off ∙ r.0,
      record {
        index = suc (r.1.index);
        pin = r.1.pin;
        stands = r.1.stands;
        place_is = omega (arith, r.1.place_is);
        at = r.1.at;
        is_at = r.1.is_at;
        entry = r.1.entry;
        is_entry = r.1.is_entry;
        position_is = r.1.position_is;
      },
    )

    by_on : (at : PinAt) (cell : Cell) → pin.at ≡ Some at → entry_at board at ≡ Some cell
        → (o : Option NetDriver) → enabled_in s (pin_drivers board (suc k) pins) ≡ o
        → FirstOn board s (suc k) pins o →
        (t : Bool) → enables_by s at.part cell.ctl ≡ t → FirstOn board s k (pin ∷ pins) (cond t (Some (net_driver board at.part k cell)) o)
    by_on at cell a e o w r true t =
        let on : enables board s pin
        ≡ true = ap (λ (x : Option PinAt). enables_where board s x) a
        ∙ ap (λ (x : Option Cell). enables_entry s at.part x) e ∙ t in
        let z : k ≡ k + 0 = omega arith in (
          ap (λ (b : Bool). cond b (Some k) (first_enabled board s (suc k) pins)) on,
          record { index = 0; pin = pin; stands = refl; place_is = z; at = at; is_at = a; entry = cell; is_entry = e; position_is = refl },
        )
    by_on at cell a e o w r false t =
        later o (ap (λ (x : Option PinAt). enables_where board s x) a ∙ ap (λ (x : Option Cell). enables_entry s at.part x) e ∙ t) r

    by_entry : (at : PinAt) → pin.at ≡ Some at → (c : Option Cell) → entry_at board at ≡ c
        → (o : Option NetDriver) → enabled_in s (pin_drivers board (suc k) pins) ≡ o
        → FirstOn board s (suc k) pins o →
        FirstOn board s k (pin ∷ pins)
        (enabled_in s
        (option_to_list (option_map (net_driver board at.part k) c)
        ++ pin_drivers board (suc k) pins))
    by_entry at a None e o w r =
        subst (λ (x : Option NetDriver). FirstOn board s k (pin ∷ pins) x) (sym w)
        (later o (ap (λ (x : Option PinAt). enables_where board s x) a ∙ ap (λ (x : Option Cell). enables_entry s at.part x) e) r)
    by_entry at a (Some cell) e o w r =
        subst
        (λ (x : Option NetDriver). FirstOn board s k (pin ∷ pins)
        (cond (is_driver_on s (net_driver board at.part k cell).ctl)
        (Some (net_driver board at.part k cell)) x)) (sym w)
        (subst
        (λ (b : Bool). FirstOn board s k (pin ∷ pins)
        (cond b (Some (net_driver board at.part k cell)) o)) (sym (on_by s at.part cell.ctl))
        (by_on at cell a e o w r (enables_by s at.part cell.ctl) refl))

    by_at : (a : Option PinAt) → pin.at ≡ a → (o : Option NetDriver)
        → enabled_in s (pin_drivers board (suc k) pins) ≡ o → FirstOn board s (suc k) pins o →
        FirstOn board s k (pin ∷ pins) (enabled_in s (option_to_list (driver_of board k a) ++ pin_drivers board (suc k) pins))
    by_at None a o w r =
        subst (λ (x : Option NetDriver). FirstOn board s k (pin ∷ pins) x) (sym w)
        (later o (ap (λ (x : Option PinAt). enables_where board s x) a) r)
    by_at (Some at) a o w r = by_entry at a (entry_at board at) refl o w r

any_const : {X : Type 0} (t : Bool) (f : X → Bool) (xs : List X) (x : X) → Has xs x → ((y : X) → f y ≡ t) → list_any f xs ≡ t
any_const t f [] x h same = absurd h
any_const {X} t f (y ∷ xs) x h same = ap (λ (b : Bool). b || list_any f xs) (same y) ∙ by_test t (rest xs)
  where
    none : (xs : List X) → ((y : X) → f y ≡ false) → list_any f xs ≡ false
    none [] off = refl
    none (z ∷ xs) off = ap (λ (b : Bool). b || list_any f xs) (off z) ∙ none xs off

    rest : (xs : List X) → t ≡ false → list_any f xs ≡ false
    rest xs e = none xs (λ y. same y ∙ e)

    by_test : (b : Bool) → (b ≡ false → list_any f xs ≡ false) → (b || list_any f xs) ≡ b
    by_test true off = refl
    by_test false off = off refl

reads_pin : (board : RawBoard) (driver k : ℕ) (o : Option PinAt)
    → list_any (λ r. not (r.place == driver)) (readers_at board k o)
    ≡ (not (k == driver) && receives_where board o)
reads_pin board driver k None = sym (and-false (not (k == driver)))
reads_pin board driver k (Some at) = by_receives (receives_where board (Some at)) refl
  where
    entries : (device : RawDevice) (o : Option PortBit) → receives_bit device at.bit o ≡ true
        → list_any (reads_bit at.bit) device.cells ≡ true
    entries device None e = cc e
    entries device (Some bit) e = (and_parts (may_receive bit.mode) (list_any (reads_bit at.bit) device.cells) e).1

    by_device : (o : Option RawDevice) → receives_in o at.bit ≡ true
        → list_any (λ r. not (r.place == driver)) (readers_in board k at o) ≡ not (k == driver)
    by_device None e = cc e
    by_device (Some device) e =
        let f = any_place (reads_bit at.bit) device.cells (entries device (slice_get device.bits at.bit) e) in
        let xs : List Cell = filter (reads_bit at.bit) device.cells in
        let h : Has xs f.item = has_filter (reads_bit at.bit) device.cells f.item (has_at device.cells f.place f.item f.stands) f.passes in
        over xs ∙ any_const (not (k == driver)) (λ (x : Cell). not (k == driver)) xs f.item h (λ y. refl)
      where
        over : (xs : List Cell)
            → list_any (λ r. not (r.place == driver)) (map (reader_cell board at.part k) xs)
            ≡ list_any (λ (x : Cell). not (k == driver)) xs
        over [] = refl
        over (x ∷ xs) = ap (λ (b : Bool). not (k == driver) || b) (over xs)

    by_receives : (t : Bool) → receives_where board (Some at) ≡ t
        → list_any (λ r. not (r.place == driver))
        (cond t (readers_in board k at (device_at board at.part)) []) ≡ (not (k == driver) && t)
    by_receives true e = by_device (device_at board at.part) e ∙ sym (and-true (not (k == driver)))
    by_receives false e = sym (and-false (not (k == driver)))

pub beside_is : (board : RawBoard) (driver k : ℕ) (pins : List NetPin) →
    list_any (λ r. not (r.place == driver))
    (gathered (λ place pin. readers_at board place pin.at) k pins)
    ≡ reads_beside board driver k pins
beside_is board driver k [] = refl
beside_is board driver k (pin ∷ pins) =
    list_any-append (λ (r : ReaderCell). not (r.place == driver)) (readers_at board k pin.at)
    (gathered (λ place pin. readers_at board place pin.at) (suc k) pins)
    ∙ ap
    (λ (b : Bool). b
    || list_any (λ r. not (r.place == driver))
    (gathered (λ place pin. readers_at board place pin.at) (suc k) pins))
    (reads_pin board driver k pin.at)
    ∙ ap (λ (b : Bool). (not (k == driver) && receives board pin) || b) (beside_is board driver (suc k) pins)

-- the option has the driver by which the setting observes the net, or is None if the setting does not observe the net
abbrev pub Observed : RawBoard → Enabling → Net → Option NetDriver → Type 0
Observed board s net None = observing_driver board s net ≡ None
Observed board s net (Some d) = (observing_driver board s net ≡ Some d.place) × DriverAt board 0 net.pins d

pub observed : (board : RawBoard) (s : Enabling) (net : Net)
    → Observed board s net (observing_of s (drivers_of board net) (readers_of board net.pins))
observed board s net = by_guard (guarded board net) refl
  where
    readers : List ReaderCell
    readers = readers_of board net.pins

    by_beside : (d : NetDriver) → guarded board net ≡ false
        → first_enabled board s 0 net.pins ≡ Some d.place → DriverAt board 0 net.pins d →
        (t : Bool) → reads_beside board d.place 0 net.pins ≡ t → Observed board s net (cond t (Some d) None)
    by_beside d g f at true t = (
      ap (λ (b : Bool). cond b None (observing_driver_by board net (first_enabled board s 0 net.pins))) g
          ∙ ap (λ (o : Option ℕ). observing_driver_by board net o) f
          ∙ ap (λ (b : Bool). cond b (Some d.place) None) t,
      at,
    )
    by_beside d g f at false t =
        ap (λ (b : Bool). cond b None (observing_driver_by board net (first_enabled board s 0 net.pins))) g
        ∙ ap (λ (o : Option ℕ). observing_driver_by board net o) f
        ∙ ap (λ (b : Bool). cond b (Some d.place) None) t

    by_first : guarded board net ≡ false → (o : Option NetDriver) → FirstOn board s 0 net.pins o →
        Observed board s net
        (option_and_then
        (λ d. cond (list_any (λ r. not (r.place == d.place)) (readers_of board net.pins))
        (Some d) None) o)
    by_first g None f =
        ap (λ (b : Bool). cond b None (observing_driver_by board net (first_enabled board s 0 net.pins))) g
        ∙ ap (λ (o : Option ℕ). observing_driver_by board net o) f
    by_first g (Some d) f =
        subst (λ (b : Bool). Observed board s net (cond b (Some d) None)) (sym (beside_is board d.place 0 net.pins))
        (by_beside d g f.0 f.1 (reads_beside board d.place 0 net.pins) refl)

    by_guard : (t : Bool) → guarded board net ≡ t
        → Observed board s net
        (observing_of s (cond t [] (drivers_of_pins board net.pins)) (readers_of board net.pins))
    by_guard true g = ap (λ (b : Bool). cond b None (observing_driver_by board net (first_enabled board s 0 net.pins))) g
    by_guard false g = by_first g (enabled_in s (pin_drivers board 0 net.pins)) (first_on board s 0 net.pins)
