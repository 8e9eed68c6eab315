-- The driver and the bit of an observed net while a row of a pass is in the latches.
use Rattle.std.proofs.Common.{◌≡◌, ◌≢◌, ℕ, zero, suc, ◌+◌, ◌==◌, Bool, true, false, cond, not, ◌&&◌, List, [], ◌∷◌, Option, Some, None, refl, sym, ◌∙◌, ap, subst, arith}
use Rattle.std.specs.Prelude.{slice_get, unwrap_or, option_map, option_and_then}
use Rattle.std.specs.List.{list_all}
use Rattle.lists.proofs.Booleans.{not_itself}
use Rattle.board_defs.specs.declared.device.Control.{Control}
use Rattle.board_defs.specs.declared.device.Cell.{Cell}
use Rattle.board_defs.specs.declared.device.RawDevice.{RawDevice}
use Rattle.board_defs.specs.declared.board.PartKind.TheVariants.{Described}
use Rattle.board_defs.specs.declared.board.Part.{Part}
use Rattle.board_defs.specs.declared.board.PinAt.{PinAt}
use Rattle.board_defs.specs.declared.board.NetPin.{NetPin}
use Rattle.board_defs.specs.declared.board.Net.{Net}
use Rattle.board_defs.specs.declared.board.RawBoard.{RawBoard}
use Rattle.board_defs.specs.DeviceRules.{is_driving, drives_bit, driving_entry, is_on}
use Rattle.board_defs.specs.Pins.{device_at, described, entry_at, guarded, is_same, is_pinned}
use Rattle.board_defs.specs.Settings.{Enabling, enables, enables_where, enables_entry, enables_by, IsSafe, SwitchesAt}
use Rattle.board_defs.proofs.CellLemmas.{on_is}
use Rattle.tap_defs.specs.chain.Part.{PinState}
use Rattle.tap_defs.specs.chain.Chain.{ChainPart, pin_states}
use Rattle.tap_defs.specs.board.FaultSet.{FaultSet, no_faults}
use Rattle.tap_defs.specs.board.NetBits.{Place, place_of, in_extest, latch, live, live_where, live_entry, is_on_by, driver_bit, extest_where, ruled, Feeding, Unruled, Undriven, Driven, Contended, with_pin, feeding_from, feeding, unshorted_bit, bit_or_else}
use Rattle.tap_defs.specs.board.TestRows.{TestRow, steady_bit, data_bit, data_pin, data_place, data_observed, only_if, observing_driver, observing_driver_by, first_enabled, reads_beside}
use Rattle.std.proofs.lemmas.Bool.{and_parts, both_ways, eq-eqb, false_from_ne_true, eqb-true}
use Rattle.tap_defs.proofs.board.InTestLemmas.{InTest, shifted_row}
use Rattle.tap_defs.proofs.board.LiveLemmas.{IsWired, found, find_some, control_on, latch_is, extest_is, dead_if_off}

-- The consequences of the rules of boards for pin `i` of net `n`. Either its part has no description. Or its
-- part is described and in the chain, the device keeps the rules of `IsWired`, its port bit has a pin, and a
-- search for this pin in the nets finds pin `i` of net `n`.
pub data PinRules (board : RawBoard) (n : ℕ) (net : Net) (i : ℕ) (p : NetPin) : Type 0 where
  apart : p.at ≡ None → PinRules board n net i p
  placed : (at : PinAt) (part : Part) (device : RawDevice) → p.at ≡ Some at → slice_get board.chain at.part ≡ Some part →
      part.kind ≡ Described device → IsWired device → is_pinned board at ≡ true →
      place_of at 0 board.nets ≡ Some (record { number = n; net = net; place = i }) → PinRules board n net i p

-- The consequences of the rules of boards for net `n`: its index in the list of nets, its pins, and its pull.
-- A pin is on one net only. So if a pin of net `n` is on an unguarded net that is pulled to `value`, net `n`
-- is pulled to `value`.
pub record NetRules (board : RawBoard) (n : ℕ) (net : Net) : Type 0 where
  pub stands : slice_get board.nets n ≡ Some net
  pub pins : (i : ℕ) (p : NetPin) → slice_get net.pins i ≡ Some p → PinRules board n net i p
  pub alone : (i : ℕ) (p : NetPin) (at : PinAt) (value : Bool) → slice_get net.pins i ≡ Some p → p.at ≡ Some at →
      SwitchesAt board at value → net.pull ≡ Some value

-- pin `d` of the net, the driver by which the setting observes the net: the setting enables it, and the net
-- is unguarded
pub record Observing (board : RawBoard) (setting : Enabling) (net : Net) (d : ℕ) : Type 0 where
  pub pin : NetPin
  pub stands : slice_get net.pins d ≡ Some pin
  pub enabled : enables board setting pin ≡ true
  pub unguarded : guarded board net ≡ false

first_by : (board : RawBoard) (setting : Enabling) (m d : ℕ) (p : NetPin) (ps : List NetPin) →
    (first_enabled board setting (suc m) ps ≡ Some d
    → (i : ℕ) × (q : NetPin) × (d ≡ suc m + i) × (slice_get ps i ≡ Some q)
    × (enables board setting q ≡ true)) →
    (b : Bool) → enables board setting p ≡ b
    → cond b (Some m) (first_enabled board setting (suc m) ps) ≡ Some d
    → (i : ℕ) × (q : NetPin) × (d ≡ m + i) × (slice_get (p ∷ ps) i ≡ Some q)
    × (enables board setting q ≡ true)
first_by board setting m d p ps ih true q e = let z : m ≡ d = cc e in (0, p, omega (arith, z), refl, q)
first_by board setting m d p ps ih false q e = let r = ih e in (suc r.0, r.1, omega (arith, r.2), r.3, r.4)

pub first_at : (board : RawBoard) (setting : Enabling) (m d : ℕ) (ps : List NetPin) → first_enabled board setting m ps ≡ Some d →
    (i : ℕ) × (q : NetPin) × (d ≡ m + i) × (slice_get ps i ≡ Some q) × (enables board setting q ≡ true)
first_at board setting m d [] e = cc e
first_at board setting m d (p ∷ ps) e =
    first_by board setting m d p ps (first_at board setting (suc m) d ps) (enables board setting p)
    refl e

pub observing_at : (board : RawBoard) (setting : Enabling) (net : Net) (d : ℕ) → observing_driver board setting net ≡ Some d →
    Observing board setting net d
observing_at board setting net d e = go (guarded board net) refl e
  where
    none : (b : Bool) (x y : ℕ) → cond b (Some x) None ≡ Some y → x ≡ y
    none true x y e = cc e
    none false x y e = cc e

    inner : (o : Option ℕ) → first_enabled board setting 0 net.pins ≡ o → observing_driver_by board net o ≡ Some d →
        first_enabled board setting 0 net.pins ≡ Some d
    inner None q e = cc e
    inner (Some i) q e = q ∙ ap (λ (x : ℕ). Some x) (none (reads_beside board i 0 net.pins) i d e)

    go : (b : Bool) → guarded board net ≡ b →
        cond b None (observing_driver_by board net (first_enabled board setting 0 net.pins)) ≡ Some d → Observing board setting net d
    go true q e = cc e
    go false q e =
        let r = first_at board setting 0 d net.pins (inner (first_enabled board setting 0 net.pins) refl e) in
        let z : r.0 ≡ d = omega (arith, r.2) in
        record { pin = r.1; stands = subst (λ (i : ℕ). slice_get net.pins i ≡ Some r.1) z r.3; enabled = r.4; unguarded = q }

pub all_dead : (board : RawBoard) (pin_state : List PinState) (m : ℕ) (ps : List NetPin) →
    ((i : ℕ) (p : NetPin) → slice_get ps i ≡ Some p → live board pin_state p ≡ false) → feeding_from board pin_state m ps ≡ Undriven
all_dead board pin_state m [] q = refl
all_dead board pin_state m (p ∷ ps) q =
    ap (λ (b : Bool). with_pin b m (driver_bit board pin_state p.at) (feeding_from board pin_state (suc m) ps)) (q 0 p refl)
    ∙ all_dead board pin_state (suc m) ps (λ i. q (suc i))

pub feeding_one : (board : RawBoard) (pin_state : List PinState) (m i : ℕ) (ps : List NetPin) (d : NetPin) → slice_get ps i ≡ Some d →
    ((x : ℕ) (p : NetPin) → slice_get ps x ≡ Some p → x ≢ i → live board pin_state p ≡ false) →
    feeding_from board pin_state m ps ≡ with_pin (live board pin_state d) (m + i) (driver_bit board pin_state d.at) Undriven
feeding_one board pin_state m i [] d e q = cc e
feeding_one board pin_state m zero (p ∷ ps) d e q =
    let z : p ≡ d = cc e in
    let w : m ≡ m + 0 = omega arith in
    ap (λ (f : Feeding). with_pin (live board pin_state p) m (driver_bit board pin_state p.at) f)
    (all_dead board pin_state (suc m) ps
    (λ x r h. q (suc x) r h (λ k. absurd (omega (arith, k)))))
    ∙ ap (λ (r : NetPin). with_pin (live board pin_state r) m (driver_bit board pin_state r.at) Undriven) z
    ∙ ap (λ (x : ℕ). with_pin (live board pin_state d) x (driver_bit board pin_state d.at) Undriven) w
feeding_one board pin_state m (suc i) (p ∷ ps) d e q =
    let w : suc m + i ≡ m + suc i = omega arith in
    ap
    (λ (b : Bool). with_pin b m (driver_bit board pin_state p.at)
    (feeding_from board pin_state (suc m) ps)) (q 0 p refl (λ k. absurd (omega (arith, k))))
    ∙ feeding_one board pin_state (suc m) i ps d e (λ x r h k. q (suc x) r h (λ z. k (omega (arith, z))))
    ∙ ap (λ (x : ℕ). with_pin (live board pin_state d) x (driver_bit board pin_state d.at) Undriven) w

pub all_pass : (f : NetPin → Bool) (ps : List NetPin) → ((i : ℕ) (p : NetPin) → slice_get ps i ≡ Some p → f p ≡ true) → list_all f ps ≡ true
all_pass f [] q = refl
all_pass f (p ∷ ps) q = ap (λ (b : Bool). b && list_all f ps) (q 0 p refl) ∙ all_pass f ps (λ i. q (suc i))

differ : (i d : ℕ) → i ≢ d → (d == i) ≡ false
differ i d h = false_from_ne_true (d == i) (λ e. h (sym (eqb-true d i e)))

-- the net carries bit `v`: driver `d` drives it to `v`, or the net is undriven and pulled to `v`
pub data Carries (d : ℕ) (pull : Option Bool) (v : Bool) (f : Feeding) : Type 0 where
  driven : f ≡ Driven d v → Carries d pull v f
  pulled : f ≡ Undriven → pull ≡ Some v → Carries d pull v f

module _ (board : RawBoard) (row : TestRow) (safe : IsSafe board row.setting) (n : ℕ) (net : Net)
    (rules : NetRules board n net) (d : ℕ)
    (observing : observing_driver board row.setting net ≡ Some d) (before : TestRow)
    (chain : List ChainPart)
    (h : InTest board (shifted_row board (record { now = row; before = before })) chain) where
  pub w : Observing board row.setting net d
  w = observing_at board row.setting net d observing

  off_at : (i : ℕ) (p : NetPin) → slice_get net.pins i ≡ Some p → i ≢ d → enables board row.setting p ≡ false
  off_at i p e ne =
      false_from_ne_true (enables board row.setting p)
      (λ on. safe.one n net i d p w.pin rules.stands e w.stands ne on w.enabled)

  dead_by : (i : ℕ) (p : NetPin) → slice_get net.pins i ≡ Some p → i ≢ d → PinRules board n net i p →
      live board (pin_states chain) p ≡ false
  dead_by i p e ne (apart a) = ap (λ (o : Option PinAt). live_where board (pin_states chain) o) a
  dead_by i p e ne (placed at part device a ek ed wired pinned place) =
      ap (λ (o : Option PinAt). live_where board (pin_states chain) o) a
      ∙ dead_if_off board row before chain at.part at.bit part device h ek ed wired pinned
      (sym (ap (λ (o : Option PinAt). enables_where board row.setting o) a) ∙ off_at i p e ne)
      (ap (λ (o : Option Place). data_place board row o) place
      ∙ ap (λ (o : Option ℕ). data_observed (row.carried n) i o) observing
      ∙ ap (λ (b : Bool). only_if b (row.carried n)) (differ i d ne))

  pub dead_at : (i : ℕ) (p : NetPin) → slice_get net.pins i ≡ Some p → i ≢ d → live board (pin_states chain) p ≡ false
  dead_at i p e ne = dead_by i p e ne (rules.pins i p e)

  extest_by : (i : ℕ) (p : NetPin) → PinRules board n net i p → extest_where (pin_states chain) p.at ≡ true
  extest_by i p (apart a) = ap (λ (o : Option PinAt). extest_where (pin_states chain) o) a
  extest_by i p (placed at part device a ek ed wired pinned place) =
      ap (λ (o : Option PinAt). extest_where (pin_states chain) o) a
      ∙ extest_is board (record { now = row; before = before }) chain at.part part device h ek ed

  ruled_is : ruled board (pin_states chain) net ≡ true
  ruled_is =
      ap (λ (b : Bool). not b && list_all (λ p. extest_where (pin_states chain) p.at) net.pins) w.unguarded
      ∙ all_pass (λ p. extest_where (pin_states chain) p.at) net.pins (λ i p e. extest_by i p (rules.pins i p e))

  feeding_is : feeding board (pin_states chain) net
      ≡ with_pin (live board (pin_states chain) w.pin) d
      (driver_bit board (pin_states chain) w.pin.at) Undriven
  feeding_is =
      let z : 0 + d ≡ d = omega arith in
      ap (λ (b : Bool). cond b (feeding_from board (pin_states chain) 0 net.pins) Unruled) ruled_is
      ∙ feeding_one board (pin_states chain) 0 d net.pins w.pin w.stands (λ i p e ne. dead_at i p e ne)
      ∙ ap (λ (x : ℕ). with_pin (live board (pin_states chain) w.pin) x (driver_bit board (pin_states chain) w.pin.at) Undriven) z

  module _ (v : Bool) (carried_is : row.carried n ≡ Some v) where
    if_live : (on bit : Bool) → (on ≡ true → bit ≡ v) → (on ≡ false → net.pull ≡ Some v) → Carries d net.pull v (with_pin on d bit Undriven)
    if_live true bit a b = driven (ap (λ (x : Bool). Driven d x) (a refl))
    if_live false bit a b = pulled refl (b refl)

    on_off : (l c : Bool) → not (is_same l c) ≡ false → l ≡ c
    on_off true true e = refl
    on_off true false e = cc e
    on_off false true e = cc e
    on_off false false e = refl

    module _ (at : PinAt) (part : Part) (device : RawDevice) (at_is : w.pin.at ≡ Some at)
        (ek : slice_get board.chain at.part ≡ Some part) (ed : part.kind ≡ Described device)
        (wired : IsWired device) (pinned : is_pinned board at ≡ true)
        (place : place_of at 0 board.nets ≡ Some (record { number = n; net = net; place = d }))
        (e : Cell) (i : ℕ) (entry : driving_entry device at.bit ≡ Some e)
        (de : drives_bit at.bit e ≡ true) (ei : slice_get device.cells i ≡ Some e) where
      k : ℕ
      k = at.part

      parts : (is_on at.bit e.bit ≡ true) × (is_driving e.role ≡ true)
      parts = and_parts (is_on at.bit e.bit) (is_driving e.role) de

      dev : device_at board at.part ≡ Some device
      dev = ap (λ (o : Option Part). option_and_then (λ p. described p.kind) o) ek ∙ ap described ed

      entry_is : entry_at board at ≡ Some e
      entry_is = ap (λ (o : Option RawDevice). option_and_then (λ x. driving_entry x at.bit) o) dev ∙ entry

      carried : data_pin board row at.part e.bit ≡ Some v
      carried =
          ap (λ (o : Option ℕ). data_pin board row at.part o) (on_is at.bit e.bit parts.0)
          ∙ ap (λ (o : Option Place). data_place board row o) place
          ∙ ap (λ (o : Option ℕ). data_observed (row.carried n) d o) observing
          ∙ ap (λ (b : Bool). only_if b (row.carried n)) (eq-eqb d d refl)
          ∙ carried_is

      data_is : data_bit board row at.part device e.num ≡ Some v
      data_is =
          let test : Cell → Bool = λ c. (c.num == e.num) && is_driving c.role in
          let here : test e ≡ true = ap (λ (b : Bool). b && is_driving e.role) (eq-eqb e.num e.num refl) ∙ parts.1 in
          let y = find_some test device.cells i e ei here in
          let f = found test device.cells y.0 y.1 in
          let fy = and_parts (y.0.num == e.num) (is_driving y.0.role) f.0 in
          let same : y.0 ≡ e = wired.one_cell i f.1.0 e y.0 ei parts.1 f.1.1 fy.1 (eqb-true y.0.num e.num fy.0) in
          ap (λ (o : Option Cell). option_and_then (λ c. data_pin board row at.part c.bit) o) y.1
          ∙ ap (λ (c : Cell). data_pin board row at.part c.bit) same
          ∙ carried

      latch_num : latch (pin_states chain) at.part e.num ≡ v
      latch_num =
          latch_is board (record { now = row; before = before }) chain at.part part device h ek ed e.num (wired.num_below i e ei)
          ∙ ap (λ (o : Option Bool). unwrap_or o (steady_bit board row.setting at.part device e.num)) data_is

      bit_is : driver_bit board (pin_states chain) w.pin.at ≡ v
      bit_is =
          ap (λ (o : Option PinAt). driver_bit board (pin_states chain) o) at_is
          ∙ ap (λ (o : Option Cell). unwrap_or (option_map (λ cell. latch (pin_states chain) at.part cell.num) o) false) entry_is
          ∙ latch_num

      on_entry : enables_by row.setting at.part e.ctl ≡ true
      on_entry =
          sym (ap (λ (o : Option Cell). enables_entry row.setting at.part o) entry_is)
          ∙ sym (ap (λ (o : Option PinAt). enables_where board row.setting o) at_is)
          ∙ w.enabled

      live_is : live board (pin_states chain) w.pin ≡ is_on_by (pin_states chain) at.part e.ctl
      live_is =
          ap (λ (o : Option PinAt). live_where board (pin_states chain) o) at_is
          ∙ ap (λ (o : Option Cell). live_entry (pin_states chain) at.part o) entry_is
          ∙ ap (λ (b : Bool). b && is_on_by (pin_states chain) at.part e.ctl)
          (extest_is board (record { now = row; before = before }) chain at.part part device h
          ek ed)

      other_cell : (control : Control) → e.ctl ≡ Some control → row.setting (record { part = at.part; cell = control.cell }) ≡ true →
          (control.cell == e.num) ≡ false → latch (pin_states chain) at.part control.cell ≡ not control.disable
      other_cell control q on apart_is =
          control_on board row before chain at part device h ek ed wired pinned e i de ei control q
          on apart_is

      off_means : (o : Option Control) → e.ctl ≡ o → enables_by row.setting at.part o ≡ true →
          is_on_by (pin_states chain) at.part o ≡ false → net.pull ≡ Some v
      off_means None q on off = cc off
      off_means (Some control) q on off =
          let l : latch (pin_states chain) at.part control.cell
          ≡ control.disable = on_off (latch (pin_states chain) at.part control.cell)
          control.disable off in
          by_own l (control.cell == e.num) refl
        where
          by_own : latch (pin_states chain) at.part control.cell ≡ control.disable → (b : Bool) → (control.cell == e.num) ≡ b →
              net.pull ≡ Some v
          by_own l false x = absurd (not_itself control.disable (sym (other_cell control q on x) ∙ l))
          by_own l true x =
              let num : control.cell ≡ e.num = eqb-true control.cell e.num x in
              let same : v ≡ control.disable = sym latch_num ∙ ap (λ (c : ℕ). latch (pin_states chain) at.part c) (sym num) ∙ l in
              rules.alone d w.pin at control.disable w.stands at_is
              (safe.own at e control pinned entry_is q num on)
              ∙ ap (λ (b : Bool). Some b) (sym same)

      carries_here : Carries d net.pull v (feeding board (pin_states chain) net)
      carries_here = subst (λ (f : Feeding). Carries d net.pull v f) (sym feeding_is)
          (if_live (live board (pin_states chain) w.pin)
          (driver_bit board (pin_states chain) w.pin.at) (λ x. bit_is)
          (λ x. off_means e.ctl refl on_entry (sym live_is ∙ x)))

    enters : (o : Option Cell) (at : PinAt) → w.pin.at ≡ Some at → entry_at board at ≡ o → (e : Cell) × (o ≡ Some e)
    enters (Some e) at a q = (e, refl)
    enters None at a q =
        let off : enables board row.setting w.pin
        ≡ false = ap (λ (x : Option PinAt). enables_where board row.setting x) a
        ∙ ap (λ (x : Option Cell). enables_entry row.setting at.part x) q in
        absurd (both_ways (enables board row.setting w.pin) off w.enabled)

    by_rules : PinRules board n net d w.pin → Carries d net.pull v (feeding board (pin_states chain) net)
    by_rules (apart a) =
        absurd
        (both_ways (enables board row.setting w.pin)
        (ap (λ (x : Option PinAt). enables_where board row.setting x) a) w.enabled)
    by_rules (placed at part device a ek ed wired pinned place) =
        let x = enters (entry_at board at) at a refl in
        let dev : device_at board at.part
        ≡ Some device = ap (λ (o : Option Part). option_and_then (λ p. described p.kind) o) ek
        ∙ ap described ed in
        let entry : driving_entry device at.bit
        ≡ Some x.0 = sym
        (ap (λ (o : Option RawDevice). option_and_then (λ y. driving_entry y at.bit) o) dev)
        ∙ x.1 in
        let f = found (drives_bit at.bit) device.cells x.0 entry in
        carries_here at part device a ek ed wired pinned place x.0 f.1.0 entry f.0 f.1.1

    -- an observed net carries the bit that the row gives it
    pub carries : Carries d net.pull v (feeding board (pin_states chain) net)
    carries = by_rules (rules.pins d w.pin w.stands)

or_twice : (pull : Option Bool) (u v : Bool) → pull ≡ Some v → bit_or_else None (bit_or_else pull None) ≡ bit_or_else pull (Some u)
or_twice (Some p) u v e = refl
or_twice None u v e = cc e

pub good_bit : (d n : ℕ) (pull : Option Bool) (v : Bool) (f : Feeding) → Carries d pull v f → unshorted_bit no_faults n pull f ≡ Some v
good_bit d n pull v f (driven e) = ap (λ (x : Feeding). unshorted_bit no_faults n pull x) e
good_bit d n pull v f (pulled e p) =
    ap (λ (x : Feeding). unshorted_bit no_faults n pull x) e
    ∙ ap (λ (o : Option Bool). bit_or_else None (bit_or_else o None)) p

pub cut_bit : (faults : FaultSet) (d n : ℕ) (pull : Option Bool) (u v : Bool) (f : Feeding) → faults.opened n d ≡ Some u →
    Carries d pull v f → unshorted_bit faults n pull f ≡ bit_or_else pull (Some u)
cut_bit faults d n pull u v f o (driven e) =
    ap (λ (x : Feeding). unshorted_bit faults n pull x) e
    ∙ ap
    (λ (x : Option Bool). bit_or_else (Rattle.tap_defs.specs.board.NetBits.fed_unless x v)
    (bit_or_else (Rattle.tap_defs.specs.board.NetBits.held_if x pull) x)) o
cut_bit faults d n pull u v f o (pulled e p) = ap (λ (x : Feeding). unshorted_bit faults n pull x) e ∙ or_twice pull u v p
