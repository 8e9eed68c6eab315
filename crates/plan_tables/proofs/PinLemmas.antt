-- Lemmas about the indexes of pins in nets (their places), and about the driving and reading entries of
-- cells.
use Rattle.std.proofs.Common.{◌≡◌, ℕ, ◌==◌, Bool, true, ◌&&◌, Option, Some, None, refl, sym, ap, ◌∙◌, subst}
use Rattle.std.specs.Prelude.{slice_get, option_and_then}
use Rattle.std.proofs.lemmas.Bool.{and_parts, eq-eqb, eqb-true}
use Rattle.board_defs.specs.declared.device.Cell.{Cell}
use Rattle.board_defs.specs.declared.device.RawDevice.{RawDevice}
use Rattle.board_defs.specs.declared.board.Part.{Part}
use Rattle.board_defs.specs.declared.board.PinAt.{PinAt}
use Rattle.board_defs.specs.declared.board.NetPin.{NetPin}
use Rattle.board_defs.specs.declared.board.Net.{Net}
use Rattle.board_defs.specs.declared.board.RawBoard.{RawBoard}
use Rattle.board_defs.specs.BoardRules.{IsBoard}
use Rattle.board_defs.specs.DeviceRules.{is_on, is_driving, is_reading, is_receiving, drives_bit, driving_entry, reading_entry}
use Rattle.board_defs.specs.Pins.{described, device_at, entry_at}
use Rattle.board_defs.proofs.CellLemmas.{on_is, receiving_reads}
use Rattle.tap_defs.specs.board.NetBits.{place_of}
use Rattle.tap_defs.specs.board.TestRows.{driving_cell}
use Rattle.tap_defs.proofs.board.LiveLemmas.{IsWired, found, find_some}
use Rattle.tap_defs.proofs.board.FeedingLemmas.{PinRules, apart, placed}
use Rattle.tap_defs.proofs.board.NetRuleLemmas.{all_read, board_rules}
use Rattle.tap_defs.proofs.board.QuietLemmas.{device_of}
use Rattle.tap_defs.proofs.board.ReadingLemmas.{IsRead}

-- the pin at port bit `at` is pin `place` of net `n`, and its part is described by a device that keeps the
-- rules of `IsWired` and `IsRead`
pub record Standing (board : RawBoard) (n : ℕ) (net : Net) (place : ℕ) (at : PinAt) : Type 0 where
  pub device : RawDevice
  pub is_device : device_at board at.part ≡ Some device
  pub wired : IsWired device
  pub read : IsRead device
  pub is_place : place_of at 0 board.nets ≡ Some (record { number = n; net = net; place = place })

pub standing : (board : RawBoard) → IsBoard board
    → (n : ℕ) (net : Net) (place : ℕ) (pin : NetPin) (at : PinAt)
    → slice_get board.nets n ≡ Some net →
    slice_get net.pins place ≡ Some pin → pin.at ≡ Some at → Standing board n net place at
standing board rules n net place pin at en ei is_at = by_rules (((board_rules board rules).nets n net en).pins place pin ei)
  where
    by_rules : PinRules board n net place pin → Standing board n net place at
    by_rules (apart a) = let bad : None ≡ Some at = sym a ∙ is_at in absurd (cc bad)
    by_rules (placed other part device a ek ed wired pinned is_place) =
        let e : Some other ≡ Some at = sym a ∙ is_at in
        let same : other ≡ at = cc e in
        subst (λ (x : PinAt). Standing board n net place x) same
        (record {
          device = device;
          is_device = ap (λ (o : Option Part). option_and_then (λ (q : Part). described q.kind) o) ek ∙ ap described ed;
          wired = wired;
          read = all_read board rules part device other.part ek ed;
          is_place = is_place;
        })

pub wired_at : (board : RawBoard) → IsBoard board → (part : ℕ) (device : RawDevice) → device_at board part ≡ Some device → IsWired device
wired_at board rules part device e =
    let d = device_of board part device e in
    (board_rules board rules).devices part d.part device d.at_k d.kind_is

pub read_at : (board : RawBoard) → IsBoard board → (part : ℕ) (device : RawDevice) → device_at board part ≡ Some device → IsRead device
read_at board rules part device e = let d = device_of board part device e in all_read board rules d.part device part d.at_k d.kind_is

-- `entry` is a driving entry of port bit `bit`
pub record Drives (device : RawDevice) (bit : ℕ) (entry : Cell) : Type 0 where
  pub index : ℕ
  pub stands : slice_get device.cells index ≡ Some entry
  pub bit_is : entry.bit ≡ Some bit
  pub role : is_driving entry.role ≡ true

pub drives_by : (device : RawDevice) (bit : ℕ) (entry : Cell) → driving_entry device bit ≡ Some entry → Drives device bit entry
drives_by device bit entry e =
    let f = found (drives_bit bit) device.cells entry e in
    let p = and_parts (is_on bit entry.bit) (is_driving entry.role) f.0 in
    record { index = f.1.0; stands = f.1.1; bit_is = on_is bit entry.bit p.0; role = p.1 }

pub entry_on : (board : RawBoard) (at : PinAt) (device : RawDevice)
    → device_at board at.part ≡ Some device → entry_at board at ≡ driving_entry device at.bit
entry_on board at device e = ap (λ (o : Option RawDevice). option_and_then (λ x. driving_entry x at.bit) o) e

pub driving_cell_is : (device : RawDevice) → IsWired device → (bit : ℕ) (entry : Cell)
    → Drives device bit entry → driving_cell device entry.num ≡ Some entry
driving_cell_is device wired bit entry d =
    let test : Cell → Bool = λ e. (e.num == entry.num) && is_driving e.role in
    let here : test entry ≡ true = ap (λ (b : Bool). b && is_driving entry.role) (eq-eqb entry.num entry.num refl) ∙ d.role in
    let y = find_some test device.cells d.index entry d.stands here in
    let f = found test device.cells y.0 y.1 in
    let p = and_parts (y.0.num == entry.num) (is_driving y.0.role) f.0 in
    let same : y.0 ≡ entry = wired.one_cell d.index f.1.0 entry y.0 d.stands d.role f.1.1 p.1 (eqb-true y.0.num entry.num p.0) in
    y.1 ∙ ap (λ (c : Cell). Some c) same

pub on_self : (bit : ℕ) (o : Option ℕ) → o ≡ Some bit → is_on bit o ≡ true
on_self bit o e = ap (λ (x : Option ℕ). is_on bit x) e ∙ eq-eqb bit bit refl

pub driving_entry_is : (device : RawDevice) → IsWired device → (cell : ℕ) (entry : Cell) (bit : ℕ)
    → driving_cell device cell ≡ Some entry → entry.bit ≡ Some bit →
    (driving_entry device bit ≡ Some entry) × (entry.num ≡ cell)
driving_entry_is device wired cell entry bit e b =
    let f = found (λ x. (x.num == cell) && is_driving x.role) device.cells entry e in
    let p = and_parts (entry.num == cell) (is_driving entry.role) f.0 in
    let here : drives_bit bit entry ≡ true = ap (λ (t : Bool). t && is_driving entry.role) (on_self bit entry.bit b) ∙ p.1 in
    let y = find_some (drives_bit bit) device.cells f.1.0 entry f.1.1 here in
    let g = found (drives_bit bit) device.cells y.0 y.1 in
    let same : y.0 ≡ entry = wired.one_driver f.1.0 g.1.0 entry y.0 bit f.1.1 here g.1.1 g.0 in
    (y.1 ∙ ap (λ (c : Cell). Some c) same, eqb-true entry.num cell p.0)

pub reading_entry_is : (device : RawDevice) → IsRead device → (index : ℕ) (entry : Cell)
    → slice_get device.cells index ≡ Some entry → is_receiving entry.role ≡ true →
    reading_entry device entry.num ≡ Some entry
reading_entry_is device read index entry stands receiving =
    let reading : is_reading entry.role ≡ true = receiving_reads entry.role receiving in
    let test : Cell → Bool = λ e. (e.num == entry.num) && is_reading e.role in
    let here : test entry ≡ true = ap (λ (b : Bool). b && is_reading entry.role) (eq-eqb entry.num entry.num refl) ∙ reading in
    let y = find_some test device.cells index entry stands here in
    let f = found test device.cells y.0 y.1 in
    let p = and_parts (y.0.num == entry.num) (is_reading y.0.role) f.0 in
    let same : y.0 ≡ entry = read.one_reader index f.1.0 entry y.0 stands reading f.1.1 p.1 (eqb-true y.0.num entry.num p.0) in
    y.1 ∙ ap (λ (c : Cell). Some c) same

-- `entry` is an entry of the device and belongs to cell `cell`
pub record Reads (device : RawDevice) (cell : ℕ) (entry : Cell) : Type 0 where
  pub index : ℕ
  pub stands : slice_get device.cells index ≡ Some entry
  pub num_is : entry.num ≡ cell

pub reads_by : (device : RawDevice) (cell : ℕ) (entry : Cell) → reading_entry device cell ≡ Some entry → Reads device cell entry
reads_by device cell entry e =
    let f = found (λ x. (x.num == cell) && is_reading x.role) device.cells entry e in
    let p = and_parts (entry.num == cell) (is_reading entry.role) f.0 in
    record { index = f.1.0; stands = f.1.1; num_is = eqb-true entry.num cell p.0 }
