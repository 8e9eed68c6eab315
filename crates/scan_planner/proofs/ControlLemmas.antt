-- Proofs that each control of a net's driver controls a driver of the board, and so does each useful control. A control is useful if the
-- setting with this control alone is safe and enables a tested driver.
use Rattle.std.proofs.Common.{◌≡◌, ℕ, ◌==◌, Bool, true, false, ◌&&◌, Option, Some, None, refl, sym, ap, ◌∙◌}
use Rattle.std.specs.Prelude.{length, slice_get, unwrap_or, option_map, option_and_then, if◌then◌else◌}
use Rattle.std.specs.List.{list_any}
use Rattle.std.proofs.lemmas.Bool.{and_parts, eq-eqb}
use Rattle.board_defs.specs.declared.device.Control.{Control}
use Rattle.board_defs.specs.declared.device.Cell.{Cell}
use Rattle.board_defs.specs.declared.device.RawDevice.{RawDevice}
use Rattle.board_defs.specs.declared.board.Part.{Part}
use Rattle.board_defs.specs.declared.board.PinAt.{PinAt}
use Rattle.board_defs.specs.declared.board.NetPin.{NetPin}
use Rattle.board_defs.specs.declared.board.Net.{Net}
use Rattle.board_defs.specs.declared.board.RawBoard.{RawBoard}
use Rattle.board_defs.specs.declared.board.Ctl.{Ctl}
use Rattle.board_defs.specs.declared.board.Drive.TheVariants.{AlwaysOn, OneSided, By}
use Rattle.board_defs.specs.BoardRules.{IsBoard}
use Rattle.board_defs.specs.DeviceRules.{is_control_of, is_driving, driving_entry}
use Rattle.board_defs.specs.Pins.{described, device_at, is_pinned, drive, drive_where, drive_by, lets_switch}
use Rattle.board_defs.specs.Decided.{is_by, drives_net, place_drive, drive_in, is_safe_alone, is_tested_driver, tests_by_at, tests_by, is_useful}
use Rattle.board_defs.proofs.Places.{Found, any_place, any_at, FoundBelow, below_place}
use Rattle.board_defs.proofs.Driving.{by_true}
use Rattle.tap_defs.specs.board.Quiet.{controls_driver}
use Rattle.tap_defs.proofs.board.FeedingLemmas.{PinRules, apart, placed}
use Rattle.tap_defs.proofs.board.NetRuleLemmas.{board_rules}
use Rattle.plan_tables.specs.Plans.{controls_driver_in, controls_some}
use Rattle.plan_tables.proofs.PinLemmas.{Drives, drives_by, entry_on}

-- `o` is the control of an entry of part `part`, and `c` has this part and the cell of this control
record Names (part : ℕ) (o : Option Control) (c : Ctl) : Type 0 where
  control : Control
  is_control : o ≡ Some control
  part_is : part ≡ c.part
  cell_is : control.cell ≡ c.cell

names_of : (board : RawBoard) (net : Net) (part : ℕ) (cell : Cell) (o : Option Control) (c : Ctl)
    → drive_by board net part cell o ≡ By c → Names part o c
names_of board net part cell None c e = let wrong : AlwaysOn ≡ By c = e in cc wrong
names_of board net part cell (Some control) c e = by_own (control.cell == cell.num) (lets_switch board net control.disable) e
  where
    own : Ctl
    own = record { part = part; cell = control.cell }

    named : By own ≡ By c → Names part (Some control) c
    named k =
        let same : own ≡ c = cc k in
        record {
          control = control;
          is_control = refl;
          part_is = ap (λ (x : Ctl). x.part) same;
          cell_is =
              ap (λ (x : Ctl). x.cell) same;
        }

    by_own : (own_cell switched : Bool)
        → (if own_cell then (if switched then By own else OneSided) else By own) ≡ By c
        → Names part (Some control) c
    by_own true true k = named k
    by_own true false k = cc k
    by_own false switched k = named k

controls_entry : (board : RawBoard) (at : PinAt) (device : RawDevice) (cell : Cell) (c : Ctl)
    → device_at board at.part ≡ Some device → is_pinned board at ≡ true →
    Drives device at.bit cell → Names at.part cell.ctl c → controls_some board c ≡ true
controls_entry board at device cell c dev pinned d n =
    ap (λ (part : ℕ). controls_driver_in board c (device_at board part)) (sym n.part_is)
    ∙ ap (λ (o : Option RawDevice). controls_driver_in board c o) dev
    ∙ any_at (controls_driver board c.part c.cell) device.cells d.index cell d.stands
    (ap (λ (o : Option Control). is_control_of c.cell o && is_driving cell.role && has_pin c.part cell.bit) n.is_control
    ∙ ap (λ (y : Bool). y && is_driving cell.role && has_pin c.part cell.bit) (eq-eqb n.control.cell c.cell n.cell_is)
    ∙ ap (λ (y : Bool). y && has_pin c.part cell.bit) d.role
    ∙ ap (λ (part : ℕ). has_pin part cell.bit) (sym n.part_is)
    ∙ ap (has_pin at.part) d.bit_is
    ∙ pinned)
  where
    has_pin : ℕ → Option ℕ → Bool
    has_pin part o = unwrap_or (option_map (λ bit. is_pinned board (record { part = part; bit = bit })) o) false

controls_pin : (board : RawBoard) → IsBoard board
    → (n : ℕ) (net : Net) (place : ℕ) (pin : NetPin) (c : Ctl) → slice_get board.nets n ≡ Some net →
    slice_get net.pins place ≡ Some pin → drive board net pin ≡ Some (By c) → controls_some board c ≡ true
controls_pin board rules n net place pin c en ep d = by_rules (((board_rules board rules).nets n net en).pins place pin ep)
  where
    by_entry : (at : PinAt) (device : RawDevice) → device_at board at.part ≡ Some device → is_pinned board at ≡ true → (o : Option Cell) →
        driving_entry device at.bit ≡ o
        → option_map (λ cell. drive_by board net at.part cell cell.ctl) o ≡ Some (By c)
        → controls_some board c ≡ true
    by_entry at device dev pinned None e k = cc k
    by_entry at device dev pinned (Some cell) e k =
        let by : drive_by board net at.part cell cell.ctl ≡ By c = cc k in
        controls_entry board at device cell c dev pinned (drives_by device at.bit cell e) (names_of board net at.part cell cell.ctl c by)

    by_rules : PinRules board n net place pin → controls_some board c ≡ true
    by_rules (apart a) = let wrong : None ≡ Some (By c) = sym (ap (λ (w : Option PinAt). drive_where board net w) a) ∙ d in cc wrong
    by_rules (placed at part device a ek ed wired pinned is_place) =
        let dev : device_at board at.part
        ≡ Some device = ap (λ (o : Option Part). option_and_then (λ q. described q.kind) o) ek
        ∙ ap described ed in
        by_entry at device dev pinned (driving_entry device at.bit) refl
        (ap (λ (o : Option Cell). option_map (λ cell. drive_by board net at.part cell cell.ctl) o) (sym (entry_on board at device dev))
        ∙ sym (ap (λ (w : Option PinAt). drive_where board net w) a) ∙ d)

pub net_controls : (board : RawBoard) → IsBoard board → (c : Ctl)
    → list_any (drives_net board c) board.nets ≡ true → controls_some board c ≡ true
net_controls board rules c h =
    let n : Found (drives_net board c) board.nets = any_place (drives_net board c) board.nets h in
    let p : Found (λ (q : NetPin). is_by c (drive board n.item q)) n.item.pins = any_place
    (λ (q : NetPin). is_by c (drive board n.item q)) n.item.pins n.passes in
    controls_pin board rules n.place n.item p.place p.item c n.stands p.stands (by_true c (drive board n.item p.item) p.passes)

tests_drives : (board : RawBoard) (c : Ctl) (net : Net) → tests_by board c net ≡ true → drives_net board c net ≡ true
tests_drives board c net h =
    let t : FoundBelow (length net.pins) (tests_by_at board c net) = below_place (length net.pins) (tests_by_at board c net) h in
    by_pin t.number (slice_get net.pins t.number) refl
    (and_parts (is_by c (place_drive board net t.number)) (is_tested_driver board net t.number)
    t.passes).0
  where
    by_pin : (place : ℕ) (o : Option NetPin) → slice_get net.pins place ≡ o
        → is_by c (drive_in board net o) ≡ true → drives_net board c net ≡ true
    by_pin place None e k = cc k
    by_pin place (Some pin) e k = any_at (λ (q : NetPin). is_by c (drive board net q)) net.pins place pin e k

pub useful_controls : (board : RawBoard) → IsBoard board → (c : Ctl) → is_useful board c ≡ true → controls_some board c ≡ true
useful_controls board rules c h =
    let n : Found (tests_by board c) board.nets = any_place (tests_by board c) board.nets
    (and_parts (is_safe_alone board c) (list_any (tests_by board c) board.nets) h).1 in
    net_controls board rules c (any_at (drives_net board c) board.nets n.place n.item n.stands (tests_drives board c n.item n.passes))
