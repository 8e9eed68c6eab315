-- An observer is a driver of a net on which another pin has a compared cell. Proofs that a pass observes nets by the observers that it
-- enables, and by no other drivers.
use Rattle.std.proofs.Common.{◌≡◌, ℕ, ◌+◌, ◌<◌, Bool, true, false, cond, List, [], length, map, get_or, Option, Some, None, refl, sym, ap, ◌∙◌, subst, arith, ◌⊎◌, inl, inr}
use Rattle.std.specs.Option.{option_to_list}
use Rattle.std.specs.Prelude.{slice_get, option_map, option_and_then, filter, find, All}
use Rattle.std.proofs.lemmas.Option.{slice_get-get_or, slice_get_within}
use Rattle.std.proofs.lemmas.Bool.{cases_eq, both_ways}
use Rattle.board_defs.specs.declared.device.Cell.{Cell}
use Rattle.board_defs.specs.declared.device.Control.{Control}
use Rattle.board_defs.specs.declared.device.RawDevice.{RawDevice}
use Rattle.board_defs.specs.declared.board.PinAt.{PinAt}
use Rattle.board_defs.specs.declared.board.NetPin.{NetPin}
use Rattle.board_defs.specs.declared.board.Net.{Net}
use Rattle.board_defs.specs.declared.board.RawBoard.{RawBoard}
use Rattle.board_defs.specs.declared.board.Ctl.{Ctl}
use Rattle.board_defs.specs.BoardRules.{IsBoard}
use Rattle.board_defs.specs.DeviceRules.{driving_entry}
use Rattle.board_defs.specs.Pins.{device_at, entry_at, guarded, cell_count, data_bits}
use Rattle.board_defs.specs.Settings.{Enabling, IsSafe, holds, same_ctl, enables, enables_where, enables_entry}
use Rattle.board_defs.proofs.Members.{Has, has_at, has_place, has_map, map_has, has_filter, filter_has, find_has, find_none}
use Rattle.board_defs.proofs.Places.{any_place, any_at}
use Rattle.board_defs.proofs.ControlOrder.{same_refl, same_equal}
use Rattle.net_pins.specs.declared.nets.NetDriver.{NetDriver}
use Rattle.plan_tables.specs.declared.observers.Observer.{Observer}
use Rattle.plan_tables.specs.declared.tables.HeldCell.{HeldCell}
use Rattle.plan_tables.specs.declared.tables.DriverCell.{DriverCell}
use Rattle.net_pins.specs.declared.nets.ReaderCell.{ReaderCell}
use Rattle.net_pins.specs.NetCells.{net_driver, driver_of, drivers_of_pins, drivers_of, readers_of}
use Rattle.net_pins.specs.Enabled.{is_driver_on, is_read_beside, observing_of}
use Rattle.plan_tables.specs.Tables.{first_position, IsDriverCell, control_position, held_cell}
use Rattle.plan_tables.specs.inner.Laid.{bits_of_parts}
use Rattle.plan_tables.specs.inner.Building.{driver_cell, IsControlThere, observer, observers_at, observers}
use Rattle.plan_tables.proofs.LaidLemmas.{laid_at}
use Rattle.net_pins.proofs.PositionLemmas.{entry_below, position_within}
use Rattle.plan_tables.proofs.BuildLemmas.{cell_there}
use Rattle.plan_tables.proofs.PinLemmas.{wired_at, drives_by, entry_on}
use Rattle.plan_tables.proofs.TableLemmas.{has_gathered, gathered_has, Observed, observed, on_by}
use Rattle.plan_tables.proofs.DriverTableLemmas.{IsOn, OnBy}

-- some pin of the net has driver `d`: its driving entry gives the driver's position and control
pub record DriverOn (board : RawBoard) (net : Net) (d : NetDriver) : Type 0 where
  pub pin : NetPin
  pub is_pin : slice_get net.pins d.place ≡ Some pin
  pub at : PinAt
  pub is_at : pin.at ≡ Some at
  pub entry : Cell
  pub is_entry : entry_at board at ≡ Some entry
  pub driver_is : net_driver board at.part d.place entry ≡ d

pub driver_on : (board : RawBoard) (net : Net) (d : NetDriver) → Has (drivers_of board net) d → DriverOn board net d
driver_on board net d h = by_guard (guarded board net) h
  where
    by_entry : (n : ℕ) (pin : NetPin) (at : PinAt) → slice_get net.pins n ≡ Some pin
        → pin.at ≡ Some at → (o : Option Cell) → entry_at board at ≡ o →
        Has (option_to_list (option_map (net_driver board at.part (0 + n)) o)) d → DriverOn board net d
    by_entry n pin at e a None c h = absurd h
    by_entry n pin at e a (Some entry) c (inr none) = absurd none
    by_entry n pin at e a (Some entry) c (inl same) =
        let z : 0 + n ≡ n = omega arith in
        let place : n ≡ d.place = sym z ∙ ap (λ (x : NetDriver). x.place) same in
        record {
          pin = pin;
          is_pin = subst (λ (i : ℕ). slice_get net.pins i ≡ Some pin) place e;
          at = at;
          is_at = a;
          entry = entry;
          is_entry = c;
          driver_is = subst (λ (i : ℕ). net_driver board at.part i entry ≡ d) (z ∙ place) same;
        }

    by_at : (n : ℕ) (pin : NetPin) → slice_get net.pins n ≡ Some pin → (o : Option PinAt)
        → pin.at ≡ o → Has (option_to_list (driver_of board (0 + n) o)) d → DriverOn board net d
    by_at n pin e None a h = absurd h
    by_at n pin e (Some at) a h = by_entry n pin at e a (entry_at board at) refl h

    by_guard : (t : Bool) → Has (cond t [] (drivers_of_pins board net.pins)) d → DriverOn board net d
    by_guard true h = absurd h
    by_guard false h =
        let k = has_gathered (λ place (pin : NetPin). option_to_list (driver_of board place pin.at)) 0 net.pins d h in
        by_at (k.0) (k.1) k.2 (k.1.at) refl k.3

pub control_there : (board : RawBoard) → IsBoard board → (net : Net) (d : NetDriver)
    → Has (drivers_of board net) d → IsControlThere board d.ctl
control_there board rules net d h c e = by_control s.entry.ctl refl
  where
    s : DriverOn board net d
    s = driver_on board net d h

    named : option_map (λ (control : Control). let x : Ctl = record { part = s.at.part; cell = control.cell } in x) s.entry.ctl ≡ Some c
    named = ap (λ (x : NetDriver). x.ctl) s.driver_is ∙ e

    by_device : (control : Control) → s.entry.ctl ≡ Some control → c.cell < cell_count (device_at board s.at.part)
    by_device control k = by_there (device_at board s.at.part) refl
      where
        is_cell : control.cell ≡ c.cell
        is_cell =
            let two : Some (let x : Ctl = record { part = s.at.part; cell = control.cell } in x) ≡ Some c =
            sym
            (ap
            (λ (o : Option Control). option_map
            (λ (y : Control). let x : Ctl = record { part = s.at.part; cell = y.cell }
            in
            x) o) k) ∙ named in
            let same : (let x : Ctl = record { part = s.at.part; cell = control.cell } in x) ≡ c = cc two in
            ap (λ (x : Ctl). x.cell) same

        by_there : (o : Option RawDevice) → device_at board s.at.part ≡ o → c.cell < cell_count o
        by_there None t =
            let bad : None
            ≡ Some s.entry = sym
            (ap
            (λ (o : Option RawDevice). option_and_then (λ x. driving_entry x s.at.bit) o)
            t) ∙ s.is_entry in
            cc bad
        by_there (Some device) t =
            let drives = drives_by device s.at.bit s.entry (sym (entry_on board s.at device t) ∙ s.is_entry) in
            subst (λ (n : ℕ). n < device.boundary) is_cell
            ((wired_at board rules s.at.part device t).below drives.index s.entry control
            drives.stands k)

    by_control : (o : Option Control) → s.entry.ctl ≡ o → c.cell < cell_count (device_at board c.part)
    by_control None k =
        let bad : None
        ≡ Some c = sym
        (ap
        (λ (o : Option Control). option_map
        (λ (y : Control). let x : Ctl = record { part = s.at.part; cell = y.cell }
        in
        x) o) k) ∙ named in
        cc bad
    by_control (Some control) k =
        let two : Some (let x : Ctl = record { part = s.at.part; cell = control.cell } in x) ≡ Some c =
        sym
        (ap
        (λ (o : Option Control). option_map
        (λ (y : Control). let x : Ctl = record { part = s.at.part; cell = y.cell } in
        x) o) k) ∙ named in
        let same : (let x : Ctl = record { part = s.at.part; cell = control.cell } in x) ≡ c = cc two in
        subst (λ (n : ℕ). c.cell < cell_count (device_at board n)) (ap (λ (x : Ctl). x.part) same) (by_device control k)

pub controls_there : (board : RawBoard) → IsBoard board → (net : Net) (drivers : List NetDriver)
    → drivers ≡ drivers_of board net → All (λ d. IsControlThere board d.ctl) drivers
controls_there board rules net drivers e k d less =
    let has : Has drivers (get_or drivers k d) = has_at drivers k (get_or drivers k d) (slice_get-get_or drivers k d less) in
    control_there board rules net (get_or drivers k d) (subst (λ (l : List NetDriver). Has l (get_or drivers k d)) e has)

pin_enabled : (board : RawBoard) (s : Enabling) (net : Net) (d : NetDriver)
    (k : DriverOn board net d) → is_driver_on s d.ctl ≡ true → enables board s k.pin ≡ true
pin_enabled board s net d k on =
    ap (λ (o : Option PinAt). enables_where board s o) k.is_at
    ∙ ap (λ (o : Option Cell). enables_entry s k.at.part o) k.is_entry
    ∙ sym (on_by s k.at.part k.entry.ctl)
    ∙ ap (λ (x : NetDriver). is_driver_on s x.ctl) k.driver_is
    ∙ on

one_driver : (board : RawBoard) (s : Enabling) → IsSafe board s → (n : ℕ) (net : Net)
    → slice_get board.nets n ≡ Some net → (d e : NetDriver) → Has (drivers_of board net) d
    → Has (drivers_of board net) e →
    is_driver_on s d.ctl ≡ true → is_driver_on s e.ctl ≡ true → d ≡ e
one_driver board s safe n net is_net d e hd he on_d on_e = by_place (cases_eq d.place e.place)
  where
    a : DriverOn board net d
    a = driver_on board net d hd

    b : DriverOn board net e
    b = driver_on board net e he

    by_place : (d.place ≡ e.place) ⊎ (d.place ≡ e.place → ⊥) → d ≡ e
    by_place (inl same) =
        let pins : Some a.pin ≡ Some b.pin = sym a.is_pin ∙ ap (λ (i : ℕ). slice_get net.pins i) same ∙ b.is_pin in
        let pin : a.pin ≡ b.pin = cc pins in
        let ats : Some a.at ≡ Some b.at = sym a.is_at ∙ ap (λ (p : NetPin). p.at) pin ∙ b.is_at in
        let at : a.at ≡ b.at = cc ats in
        let entries : Some a.entry ≡ Some b.entry = sym a.is_entry ∙ ap (λ (x : PinAt). entry_at board x) at ∙ b.is_entry in
        let entry : a.entry ≡ b.entry = cc entries in
        sym a.driver_is
        ∙ ap (λ (x : PinAt). net_driver board x.part d.place a.entry) at
        ∙ ap (λ (i : ℕ). net_driver board b.at.part i a.entry) same
        ∙ ap (λ (x : Cell). net_driver board b.at.part e.place x) entry
        ∙ b.driver_is
    by_place (inr differ) =
        absurd
        (safe.one n net d.place e.place a.pin b.pin is_net a.is_pin b.is_pin differ
        (pin_enabled board s net d a on_d) (pin_enabled board s net e b on_e))

observing_is : (board : RawBoard) (s : Enabling) → IsSafe board s → (n : ℕ) (net : Net)
    → slice_get board.nets n ≡ Some net → (d : NetDriver) → Has (drivers_of board net) d
    → is_driver_on s d.ctl ≡ true →
    is_read_beside (readers_of board net.pins) d ≡ true → observing_of s (drivers_of board net) (readers_of board net.pins) ≡ Some d
observing_is board s safe n net is_net d h on beside = by_found (find (λ x. is_driver_on s x.ctl) (drivers_of board net)) refl
  where
    readers : List ReaderCell
    readers = readers_of board net.pins

    by_found : (o : Option NetDriver) → find (λ x. is_driver_on s x.ctl) (drivers_of board net) ≡ o
        → option_and_then (λ x. cond (is_read_beside readers x) (Some x) None) o ≡ Some d
    by_found None f = absurd (both_ways (is_driver_on s d.ctl) (find_none (λ x. is_driver_on s x.ctl) (drivers_of board net) d f h) on)
    by_found (Some e) f =
        let k = find_has (λ (x : NetDriver). is_driver_on s x.ctl) (drivers_of board net) e f in
        let same : e ≡ d = one_driver board s safe n net is_net e d k.0 h k.1 on in
        ap (λ (x : NetDriver). cond (is_read_beside readers x) (Some x) None) same ∙ ap (λ (t : Bool). cond t (Some d) None) beside

-- `d` is one of the net's drivers, the setting enables it, and another pin of the net has a compared cell.
-- All this is true if the setting observes the net by `d`.
pub record Enabled (s : Enabling) (drivers : List NetDriver) (readers : List ReaderCell) (d : NetDriver) : Type 0 where
  pub is_in : Has drivers d
  pub on : is_driver_on s d.ctl ≡ true
  pub beside : is_read_beside readers d ≡ true

enabled_by : (s : Enabling) (drivers : List NetDriver) (readers : List ReaderCell) (d : NetDriver)
    → observing_of s drivers readers ≡ Some d → Enabled s drivers readers d
enabled_by s drivers readers d e = by_found (find (λ x. is_driver_on s x.ctl) drivers) refl e
  where
    by_test : (x : NetDriver) → Has drivers x → is_driver_on s x.ctl ≡ true → (t : Bool)
        → is_read_beside readers x ≡ t → cond t (Some x) None ≡ Some d → Enabled s drivers readers d
    by_test x h on false b e = cc e
    by_test x h on true b e =
        let same : x ≡ d = cc e in
        subst (λ (y : NetDriver). Enabled s drivers readers y) same
        (record { is_in = h; on = on; beside = b })

    by_found : (o : Option NetDriver) → find (λ x. is_driver_on s x.ctl) drivers ≡ o
        → option_and_then (λ x. cond (is_read_beside readers x) (Some x) None) o ≡ Some d
        → Enabled s drivers readers d
    by_found None f e = cc e
    by_found (Some x) f e =
        let k = find_has (λ (y : NetDriver). is_driver_on s y.ctl) drivers x f in
        by_test x k.0 k.1 (is_read_beside readers x) refl e

-- `x` is the observer of some driver of a net of the board, and some cell reads another pin of this net
pub record ObserverOf (board : RawBoard) (x : Observer) : Type 0 where
  pub number : ℕ
  pub net : Net
  pub is_net : slice_get board.nets number ≡ Some net
  pub driver : NetDriver
  pub is_in : Has (drivers_of board net) driver
  pub beside : is_read_beside (readers_of board net.pins) driver ≡ true
  pub observer_is : observer board number driver ≡ x

pub observer_of : (board : RawBoard) (x : Observer) → Has (observers board board.nets) x → ObserverOf board x
observer_of board x h =
    let g = has_gathered (observers_at board) 0 board.nets x h in
    let z : 0 + g.0 ≡ g.0 = omega arith in
    let m = map_has (observer board (0 + g.0)) (filter (is_read_beside (readers_of board (g.1.pins))) (drivers_of board (g.1))) x g.3 in
    let f = filter_has (is_read_beside (readers_of board (g.1.pins))) (drivers_of board (g.1)) (m.0) m.1 in
    record {
      number = g.0;
      net = g.1;
      is_net = g.2;
      driver = m.0;
      is_in = f.0;
      beside = f.1;
      observer_is = subst (λ (n : ℕ). observer board n (m.0) ≡ x) z m.2;
    }

has_observer : (board : RawBoard) (n : ℕ) (net : Net) (d : NetDriver)
    → slice_get board.nets n ≡ Some net → Has (drivers_of board net) d
    → is_read_beside (readers_of board net.pins) d ≡ true →
    Has (observers board board.nets) (observer board n d)
has_observer board n net d is_net h beside =
    let z : n ≡ 0 + n = omega arith in
    gathered_has (observers_at board) 0 board.nets n net (observer board n d) is_net
    (subst (λ (m : ℕ). Has (observers_at board m net) (observer board n d)) z
    (has_map (observer board n)
    (filter (is_read_beside (readers_of board net.pins)) (drivers_of board net)) d
    (has_filter (is_read_beside (readers_of board net.pins)) (drivers_of board net) d h
    beside)))

pub observer_below : (board : RawBoard) → IsBoard board → (x : Observer) (p : ℕ)
    → Has (observers board board.nets) x → x.control ≡ Some p → p < data_bits board
observer_below board rules x p h e = by_control s.driver.ctl refl
  where
    s : ObserverOf board x
    s = observer_of board x h

    named : option_map (control_position board) s.driver.ctl ≡ Some p
    named = ap (λ (y : Observer). y.control) s.observer_is ∙ e

    by_control : (o : Option Ctl) → s.driver.ctl ≡ o → p < data_bits board
    by_control None k = let bad : None ≡ Some p = sym (ap (λ (o : Option Ctl). option_map (control_position board) o) k) ∙ named in cc bad
    by_control (Some c) k =
        let two : Some (control_position board c)
        ≡ Some p = sym (ap (λ (o : Option Ctl). option_map (control_position board) o) k)
        ∙ named in
        let same : control_position board c ≡ p = cc two in
        subst (λ (n : ℕ). n < data_bits board) same
        (position_within board c.part c.cell
        (control_there board rules s.net s.driver s.is_in c k))

pub observer_stands : (board : RawBoard) → IsBoard board → (x : Observer)
    → Has (observers board board.nets) x
    → (x.cell.net < length board.nets) × (x.cell.position < data_bits board)
observer_stands board rules x h =
    let s = observer_of board x h in
    let k = driver_on board s.net s.driver s.is_in in
    let position : first_position board k.at.part + k.entry.num
    ≡ x.cell.position = ap (λ (d : NetDriver). d.position) k.driver_is
    ∙ ap (λ (y : Observer). y.cell.position) s.observer_is in
    let net : s.number ≡ x.cell.net = ap (λ (y : Observer). y.cell.net) s.observer_is in (
      omega (arith, slice_get_within board.nets s.number s.net s.is_net, net),
      omega (arith, position_within board k.at.part k.entry.num (entry_below board rules k.at k.entry k.is_entry), position),
    )

pub holds_has : (pass : List Ctl) (c : Ctl) → holds pass c ≡ true → Has pass c
holds_has pass c h =
    let f = any_place (same_ctl c) pass h in
    has_at pass f.place c (f.stands ∙ ap (λ (x : Ctl). Some x) (sym (same_equal c f.item f.passes)))

pub has_holds : (pass : List Ctl) (c : Ctl) → Has pass c → holds pass c ≡ true
has_holds pass c h = let p = has_place pass c h in any_at (same_ctl c) pass p.0 c p.1 (same_refl c)

position_once : (board : RawBoard) (c e : Ctl) → c.cell < cell_count (device_at board c.part)
    → e.cell < cell_count (device_at board e.part)
    → control_position board e ≡ control_position board c → e ≡ c
position_once board c e below_c below_e same =
    let g : ℕ → RawDevice → ℕ → Bool = λ part device cell. same_ctl (record { part = part; cell = cell }) c in
    let tc = cell_there board c.part c.cell below_c in
    let te = cell_there board e.part e.cell below_e in
    same_equal e c
    (sym (laid_at g board e.part te.device e.cell te.is_device te.below).1
    ∙ ap (λ (n : ℕ). get_or (bits_of_parts g board) n false) same
    ∙ (laid_at g board c.part tc.device c.cell tc.is_device tc.below).1
    ∙ same_refl c)

module _ (board : RawBoard) (rules : IsBoard board) (quiet : List Bool) (pass : List Ctl)
    (safe : IsSafe board (holds pass))
    (there : (c : Ctl) → holds pass c ≡ true → c.cell < cell_count (device_at board c.part)) where
  abbrev held : List HeldCell
  held = map (held_cell board quiet) pass

  control_on : (ctl : Option Ctl) → is_driver_on (holds pass) ctl ≡ true → IsOn held (option_map (control_position board) ctl)
  control_on None on p e = let bad : None ≡ Some p = e in cc bad
  control_on (Some c) on p e =
      let two : Some (control_position board c) ≡ Some p = e in
      let same : control_position board c ≡ p = cc two in
      (held_cell board quiet c, has_map (held_cell board quiet) pass c (holds_has pass c on), same)

  on_control : (ctl : Option Ctl) → IsControlThere board ctl
      → IsOn held (option_map (control_position board) ctl) → is_driver_on (holds pass) ctl ≡ true
  on_control None below on = refl
  on_control (Some c) below on =
      let h = on (control_position board c) refl in
      let m = map_has (held_cell board quiet) pass (h.0) h.1 in
      let has : holds pass (m.0) ≡ true = has_holds pass (m.0) m.1 in
      let same : m.0 ≡ c = position_once board c (m.0) (below c refl) (there (m.0) has) (ap (λ (x : HeldCell). x.position) m.2 ∙ h.2) in
      subst (λ (x : Ctl). holds pass x ≡ true) same has

  pub is_cell : (d : DriverCell) → OnBy (observers board board.nets) held d → IsDriverCell board pass d
  is_cell d o =
      let s = observer_of board o.observer o.is_in in
      let on : is_driver_on (holds pass) s.driver.ctl ≡ true =
      on_control s.driver.ctl (control_there board rules s.net s.driver s.is_in)
      (subst (λ (c : Option ℕ). IsOn held c)
      (sym (ap (λ (x : Observer). x.control) s.observer_is)) o.is_on) in
      let observing = observing_is board (holds pass) safe s.number s.net s.is_net s.driver s.is_in on s.beside in
      let seen : Observed board (holds pass) s.net (Some s.driver) = subst
      (λ (x : Option NetDriver). Observed board (holds pass) s.net x) observing
      (observed board (holds pass) s.net) in
      subst (λ (x : DriverCell). IsDriverCell board pass x)
      (ap (λ (x : Observer). x.cell) s.observer_is ∙ o.cell_is)
      (here s.number s.net s.driver s.is_net seen)
    where
      here : (n : ℕ) (net : Net) (d : NetDriver) → slice_get board.nets n ≡ Some net
          → Observed board (holds pass) net (Some d) → IsDriverCell board pass (driver_cell n d)
      here n net d e w =
          let z : w.1.index ≡ d.place = omega (arith, w.1.place_is) in
          record {
            net = net;
            is_net = e;
            observing = w.0;
            pin = w.1.pin;
            is_pin = subst (λ (i : ℕ). slice_get net.pins i ≡ Some (w.1.pin)) z w.1.stands;
            at = w.1.at;
            is_at = w.1.is_at;
            entry = w.1.entry;
            is_entry = w.1.is_entry;
            position_is = w.1.position_is;
          }

  pub cell_is_on : (d : DriverCell) → IsDriverCell board pass d → OnBy (observers board board.nets) held d
  cell_is_on x s =
      by_driver (observing_of (holds pass) (drivers_of board s.net) (readers_of board s.net.pins))
      refl (observed board (holds pass) s.net)
    where
      by_driver : (o : Option NetDriver)
          → observing_of (holds pass) (drivers_of board s.net) (readers_of board s.net.pins) ≡ o
          → Observed board (holds pass) s.net o → OnBy (observers board board.nets) held x
      by_driver None e w = let bad : None ≡ Some x.place = sym w ∙ s.observing in cc bad
      by_driver (Some d) e w =
          let two : Some d.place ≡ Some x.place = sym w.0 ∙ s.observing in
          let place : d.place ≡ x.place = cc two in
          let index : w.1.index ≡ x.place = omega (arith, w.1.place_is, place) in
          let pins : Some (w.1.pin)
          ≡ Some s.pin = sym
          (subst (λ (i : ℕ). slice_get s.net.pins i ≡ Some (w.1.pin)) index w.1.stands)
          ∙ s.is_pin in
          let pin : w.1.pin ≡ s.pin = cc pins in
          let ats : Some (w.1.at) ≡ Some s.at = sym w.1.is_at ∙ ap (λ (p : NetPin). p.at) pin ∙ s.is_at in
          let at : w.1.at ≡ s.at = cc ats in
          let entries : Some (w.1.entry) ≡ Some s.entry = sym w.1.is_entry ∙ ap (λ (a : PinAt). entry_at board a) at ∙ s.is_entry in
          let entry : w.1.entry ≡ s.entry = cc entries in
          let position : d.position ≡ x.position =
          w.1.position_is ∙ ap (λ (a : PinAt). first_position board a.part + (w.1.entry).num) at
          ∙ ap (λ (c : Cell). first_position board s.at.part + c.num) entry
          ∙ sym s.position_is in
          let k = enabled_by (holds pass) (drivers_of board s.net) (readers_of board s.net.pins) d e in
          record {
            observer = observer board x.net d;
            is_in = has_observer board x.net s.net d s.is_net k.is_in k.beside;
            is_on = control_on d.ctl k.on;
            cell_is = ap (λ (m : ℕ). let y : DriverCell = record { net = x.net; place = m; position = d.position } in y) place
                ∙ ap (λ (m : ℕ). let y : DriverCell = record { net = x.net; place = x.place; position = m } in y) position;
          }
