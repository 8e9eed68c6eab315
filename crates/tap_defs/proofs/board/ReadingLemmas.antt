-- A net that a pass observes has a compared cell.
use Rattle.std.proofs.Common.{◌≡◌, ℕ, suc, ◌+◌, ◌<◌, ◌==◌, Bool, true, false, cond, not, ◌&&◌, ◌||◌, List, [], ◌∷◌, Option, Some, None, refl, sym, ◌∙◌, ap, subst, arith}
use Rattle.std.specs.Prelude.{slice_get, option_and_then}
use Rattle.std.specs.List.{list_any}
use Rattle.board_defs.specs.declared.device.Cell.{Cell}
use Rattle.board_defs.specs.declared.device.PortBit.{PortBit}
use Rattle.board_defs.specs.declared.device.RawDevice.{RawDevice}
use Rattle.board_defs.specs.declared.board.PartKind.TheVariants.{Described}
use Rattle.board_defs.specs.declared.board.Part.{Part}
use Rattle.board_defs.specs.declared.board.PinAt.{PinAt}
use Rattle.board_defs.specs.declared.board.NetPin.{NetPin}
use Rattle.board_defs.specs.declared.board.Net.{Net}
use Rattle.board_defs.specs.declared.board.RawBoard.{RawBoard}
use Rattle.board_defs.specs.DeviceRules.{is_reading, is_receiving, reads_bit, is_on, may_receive}
use Rattle.board_defs.specs.Pins.{device_at, described, receives, receives_where, receives_bit, receives_in, guarded}
use Rattle.board_defs.specs.Settings.{Enabling}
use Rattle.board_defs.proofs.CellLemmas.{receiving_reads, on_is}
use Rattle.tap_defs.specs.board.TestRows.{observing_driver, observing_driver_by, first_enabled, reads_beside}
use Rattle.std.proofs.lemmas.Bool.{and_parts, eq-eqb, eqb-true, not-true}
use Rattle.tap_defs.proofs.board.LiveLemmas.{found, find_some}
use Rattle.tap_defs.proofs.board.FeedingLemmas.{PinRules, apart, placed, NetRules}
use Rattle.tap_defs.proofs.board.WrongLemmas.{Compared}

-- a cell has at most one reading entry, and each entry has the number of a cell
pub record IsRead (device : RawDevice) : Type 0 where
  pub one_reader : (i j : ℕ) (e d : Cell) → slice_get device.cells i ≡ Some e → is_reading e.role ≡ true →
      slice_get device.cells j ≡ Some d → is_reading d.role ≡ true → d.num ≡ e.num → d ≡ e
  pub num_below : (i : ℕ) (e : Cell) → slice_get device.cells i ≡ Some e → e.num < device.boundary

pub any_is : (p : Cell → Bool) (xs : List Cell) → list_any p xs ≡ true → (i : ℕ) × (x : Cell) × (slice_get xs i ≡ Some x) × (p x ≡ true)
any_is p [] e = cc e
any_is p (x ∷ xs) e = go (any_is p xs) (p x) refl e
  where
    go : (list_any p xs ≡ true → (i : ℕ) × (y : Cell) × (slice_get xs i ≡ Some y) × (p y ≡ true)) → (b : Bool) → p x ≡ b →
        (b || list_any p xs) ≡ true → (i : ℕ) × (y : Cell) × (slice_get (x ∷ xs) i ≡ Some y) × (p y ≡ true)
    go ih true q h = (0, x, refl, q)
    go ih false q h = let r = ih h in (suc r.0, r.1, r.2, r.3)

pub beside : (board : RawBoard) (driver m : ℕ) (ps : List NetPin) → reads_beside board driver m ps ≡ true →
    (i : ℕ) × (p : NetPin) × (slice_get ps i ≡ Some p) × (receives board p ≡ true) × ((driver == (m + i)) ≡ false)
beside board driver m [] e = cc e
beside board driver m (p ∷ ps) e = go (beside board driver (suc m) ps) (not (m == driver) && receives board p) refl e
  where
    flip : (m == driver) ≡ false → (driver == (m + 0)) ≡ false
    flip q = grind arith

    go :
        (reads_beside board driver (suc m) ps ≡ true
        → (i : ℕ) × (p : NetPin) × (slice_get ps i ≡ Some p) × (receives board p ≡ true)
        × ((driver == (suc m + i)) ≡ false)) →
        (b : Bool) → (not (m == driver) && receives board p) ≡ b → (b || reads_beside board driver (suc m) ps) ≡ true →
        (i : ℕ) × (q : NetPin) × (slice_get (p ∷ ps) i ≡ Some q) × (receives board q ≡ true) × ((driver == (m + i)) ≡ false)
    go ih true q h = let r = and_parts (not (m == driver)) (receives board p) q in (0, p, refl, r.1, flip (not-true (m == driver) r.0))
    go ih false q h = let r = ih h in
        let z : suc m + r.0 ≡ m + suc r.0 = omega arith in
        (suc r.0, r.1, r.2, r.3, subst (λ (x : ℕ). (driver == x) ≡ false) z r.4)

entry_of : (device : RawDevice) (b : ℕ) (o : Option PortBit) → receives_bit device b o ≡ true → list_any (reads_bit b) device.cells ≡ true
entry_of device b None e = cc e
entry_of device b (Some bit) e = (and_parts (may_receive bit.mode) (list_any (reads_bit b) device.cells) e).1

compared_by : (board : RawBoard) (setting : Enabling) (n : ℕ) (net : Net) (d i : ℕ) (p : NetPin) → slice_get net.pins i ≡ Some p →
    observing_driver board setting net ≡ Some d → receives board p ≡ true → (d == i) ≡ false →
    ((part : Part) (device : RawDevice) (k : ℕ) → slice_get board.chain k ≡ Some part → part.kind ≡ Described device → IsRead device) →
    PinRules board n net i p → (c : Compared board setting n net) × (c.place ≡ i)
compared_by board setting n net d i p pi observing r other read (apart a) =
    let z : receives_where board None ≡ true = sym (ap (λ (o : Option PinAt). receives_where board o) a) ∙ r in cc z
compared_by board setting n net d i p pi observing r other read (placed at part device a ek ed wired pinned place) =
    let here : receives_where board (Some at) ≡ true = sym (ap (λ (o : Option PinAt). receives_where board o) a) ∙ r in
    let dev : device_at board at.part
    ≡ Some device = ap (λ (o : Option Part). option_and_then (λ q. described q.kind) o) ek
    ∙ ap described ed in
    let z : receives_bit device at.bit (slice_get device.bits at.bit)
    ≡ true = sym (ap (λ (o : Option RawDevice). receives_in o at.bit) dev) ∙ here in
    let any : list_any (reads_bit at.bit) device.cells ≡ true = entry_of device at.bit (slice_get device.bits at.bit) z in
    let e = any_is (reads_bit at.bit) device.cells any in
    let parts = and_parts (is_on at.bit e.1.bit) (is_receiving e.1.role) e.3 in
    let rules : IsRead device = read part device at.part ek ed in
    let test : Cell → Bool = λ c. (c.num == e.1.num) && is_reading c.role in
    let passes : test e.1
    ≡ true = ap (λ (b : Bool). b && is_reading e.1.role) (eq-eqb e.1.num e.1.num refl)
    ∙ receiving_reads e.1.role parts.1 in
    let y = find_some test device.cells e.0 e.1 e.2 passes in
    let f = found test device.cells y.0 y.1 in
    let fy = and_parts (y.0.num == e.1.num) (is_reading y.0.role) f.0 in
    let same : y.0 ≡ e.1 = rules.one_reader e.0 f.1.0 e.1 y.0 e.2 (receiving_reads e.1.role parts.1)
    f.1.1 fy.1 (eqb-true y.0.num e.1.num fy.0) in (
      record {
        k = at.part;
        part = part;
        device = device;
        at_k = ek;
        device_is = ed;
        cell = e.1.num;
        below = rules.num_below e.0 e.1 e.2;
        entry = e.1;
        reads = y.1 ∙ ap (λ (c : Cell). Some c) same;
        receiving = parts.1;
        bit = at.bit;
        bit_is = on_is at.bit e.1.bit parts.0;
        receives_is = here;
        place = i;
        stands = place;
        pin = p;
        pin_is = pi;
        pin_at = a;
        driver = d;
        observing_is = observing;
        other = other;
      },
      refl,
    )

none_if : (b : Bool) (x y : ℕ) → cond b (Some x) None ≡ Some y → (b ≡ true) × (x ≡ y)
none_if true x y e = (refl, cc e)
none_if false x y e = cc e

pub beside_observing : (board : RawBoard) (setting : Enabling) (net : Net) (d : ℕ) → observing_driver board setting net ≡ Some d →
    reads_beside board d 0 net.pins ≡ true
beside_observing board setting net d e = go (guarded board net) e
  where
    inner : (o : Option ℕ) → observing_driver_by board net o ≡ Some d → reads_beside board d 0 net.pins ≡ true
    inner None q = cc q
    inner (Some i) q =
        let r = none_if (reads_beside board i 0 net.pins) i d q in
        subst (λ (x : ℕ). reads_beside board x 0 net.pins ≡ true) r.1 r.0

    go : (b : Bool) → cond b None (observing_driver_by board net (first_enabled board setting 0 net.pins)) ≡ Some d →
        reads_beside board d 0 net.pins ≡ true
    go true q = cc q
    go false q = inner (first_enabled board setting 0 net.pins) q

abbrev pub AllRead : RawBoard → Type 0
AllRead board =
    (part : Part) (device : RawDevice) (k : ℕ) → slice_get board.chain k ≡ Some part
    → part.kind ≡ Described device → IsRead device

pub compared : (board : RawBoard) (setting : Enabling) (n : ℕ) (net : Net) (d : ℕ) → AllRead board → NetRules board n net →
    observing_driver board setting net ≡ Some d → Compared board setting n net
compared board setting n net d read rules observing =
    let b = beside board d 0 net.pins (beside_observing board setting net d observing) in
    let z : 0 + b.0 ≡ b.0 = omega arith in
    (compared_by board setting n net d b.0 b.1 b.2 observing b.3
    (subst (λ (x : ℕ). (d == x) ≡ false) z b.4) read (rules.pins b.0 b.1 b.2)).0

pub compared_at : (board : RawBoard) (setting : Enabling) (n : ℕ) (net : Net) (d i : ℕ) (p : NetPin) → AllRead board →
    NetRules board n net → observing_driver board setting net ≡ Some d → slice_get net.pins i ≡ Some p → receives board p ≡ true →
    (d == i) ≡ false → (c : Compared board setting n net) × (c.place ≡ i)
compared_at board setting n net d i p read rules observing e r other =
    compared_by board setting n net d i p e observing r other read (rules.pins i p e)
