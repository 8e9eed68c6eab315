-- While a row of a safe pass is in the latches, the board is quiet (`IsQuietMoment`).
use Rattle.std.proofs.Common.{◌≡◌, ℕ, ◌<◌, ◌==◌, Bool, true, false, cond, not, ◌&&◌, ◌||◌, inr, List, Option, Some, None, refl, sym, ◌∙◌, ap, subst, arith}
use Rattle.std.specs.Prelude.{slice_get, unwrap_or, option_map, option_and_then}
use Rattle.std.specs.List.{list_any}
use Rattle.board_defs.specs.declared.device.Control.{Control}
use Rattle.board_defs.specs.declared.device.Cell.{Cell}
use Rattle.board_defs.specs.declared.device.RawDevice.{RawDevice}
use Rattle.board_defs.specs.declared.board.PartKind.{PartKind}
use Rattle.board_defs.specs.declared.board.PartKind.TheVariants.{Described, Bypass}
use Rattle.board_defs.specs.declared.board.Part.{Part}
use Rattle.board_defs.specs.declared.board.PinAt.{PinAt}
use Rattle.board_defs.specs.declared.board.NetPin.{NetPin}
use Rattle.board_defs.specs.declared.board.Net.{Net}
use Rattle.board_defs.specs.declared.board.RawBoard.{RawBoard}
use Rattle.board_defs.specs.declared.board.Ctl.{Ctl}
use Rattle.board_defs.specs.DeviceRules.{is_driving, drives_bit, driving_entry, is_on, disable_of, is_control_of}
use Rattle.board_defs.specs.Pins.{device_at, described, guarded, is_pinned}
use Rattle.board_defs.proofs.Pairwise.{safe_within}
use Rattle.board_defs.specs.Settings.{Enabling, enables, enables_where, enables_at, enables_entry, enables_by, IsSafe}
use Rattle.board_defs.proofs.Places.{any_at}
use Rattle.tap_defs.specs.chain.Part.{PinState}
use Rattle.tap_defs.specs.chain.Chain.{ChainPart, pin_states}
use Rattle.tap_defs.specs.board.NetBits.{Place, place_of, latch, live, live_where}
use Rattle.board_defs.specs.Decided.{is_at}
use Rattle.tap_defs.specs.board.Quiet.{controls_driver, drives_unguarded, safe_bit, differs, set_in, latched_setting, IsSafelySet, KeepsSafeValues, IsUncontested}
use Rattle.tap_defs.specs.board.TestRows.{TestRow, steady_bit, data_bit, data_pin, data_place, data_observed, only_if, driving_cell, observing_driver}
use Rattle.tap_defs.specs.board.BoardScans.{RowScan}
use Rattle.std.proofs.lemmas.Bool.{and_parts, both_ways, eq-eqb, eqb-true}
use Rattle.tap_defs.proofs.board.InTestLemmas.{InTest, shifted_row}
use Rattle.tap_defs.proofs.board.LiveLemmas.{IsWired, found, latch_is, extest_is, dead_if_off}
use Rattle.tap_defs.proofs.board.FeedingLemmas.{PinRules, apart, placed, NetRules, observing_at}
use Rattle.tap_defs.proofs.board.ReadingLemmas.{any_is}
use Rattle.tap_defs.proofs.board.PassingLemmas.{stands_at}

-- the rules of nets and devices that these proofs need
pub record BoardRules (board : RawBoard) : Type 0 where
  pub nets : (n : ℕ) (net : Net) → slice_get board.nets n ≡ Some net → NetRules board n net
  pub devices : (k : ℕ) (part : Part) (device : RawDevice) → slice_get board.chain k ≡ Some part → part.kind ≡ Described device →
      IsWired device

pub record DeviceOf (board : RawBoard) (k : ℕ) (device : RawDevice) : Type 0 where
  pub part : Part
  pub at_k : slice_get board.chain k ≡ Some part
  pub kind_is : part.kind ≡ Described device

pub device_of : (board : RawBoard) (k : ℕ) (device : RawDevice) → device_at board k ≡ Some device → DeviceOf board k device
device_of board k device e = go (slice_get board.chain k) refl e
  where
    by_kind : (part : Part) (kind : PartKind) → part.kind ≡ kind → slice_get board.chain k ≡ Some part → described kind ≡ Some device →
        DeviceOf board k device
    by_kind part (Described x) q ek h = let z : x ≡ device = cc h in record { part = part; at_k = ek; kind_is = q ∙ ap Described z }
    by_kind part (Bypass n) q ek h = cc h

    go : (o : Option Part) → slice_get board.chain k ≡ o → option_and_then (λ p. described p.kind) o ≡ Some device → DeviceOf board k device
    go None q h = cc h
    go (Some part) q h = by_kind part part.kind refl q h

pub control_is : (cell : ℕ) (o : Option Control) → is_control_of cell o ≡ true →
    (control : Control) × (o ≡ Some control) × (control.cell ≡ cell)
control_is cell None e = cc e
control_is cell (Some control) e = (control, refl, eqb-true control.cell cell e)

pinned_is : (board : RawBoard) (k : ℕ) (o : Option ℕ) →
    unwrap_or (option_map (λ bit. is_pinned board (record { part = k; bit = bit })) o) false ≡ true →
    (b : ℕ) × (o ≡ Some b) × (is_pinned board (record { part = k; bit = b }) ≡ true)
pinned_is board k None e = cc e
pinned_is board k (Some b) e = (b, refl, e)

and_three : (x y z : Bool) → (x && y && z) ≡ true → (x ≡ true) × (y ≡ true) × (z ≡ true)
and_three true true z e = (refl, refl, e)
and_three true false z e = cc e
and_three false y z e = cc e

not_differs : (d : Bool) → differs d (Some d) ≡ false
not_differs true = refl
not_differs false = refl

module _ (board : RawBoard) (row : TestRow) (safe : IsSafe board row.setting)
    (rules : BoardRules board) (before : TestRow) (chain : List ChainPart)
    (h : InTest board (shifted_row board (record { now = row; before = before })) chain) where
  abbrev t : RowScan
  t = record { now = row; before = before }

  -- If a cell carries a net's bit, its pin is an enabled driver of the net, and the net is unguarded.
  carries_code : (at : PinAt) (p : Place) (i : ℕ) → place_of at 0 board.nets ≡ Some p → observing_driver board row.setting p.net ≡ Some i →
      (i == p.place) ≡ true →
      (enables_at board row.setting at ≡ true)
      × ((guarded board p.net ≡ false)
      × ((pin : NetPin) × (slice_get p.net.pins p.place ≡ Some pin) × (pin.at ≡ Some at))
      × (slice_get board.nets p.number ≡ Some p.net))
  carries_code at p i e observing same =
      let s = stands_at board at p 0 board.nets e in
      let w = observing_at board row.setting p.net i observing in
      let z : i ≡ p.place = eqb-true i p.place same in
      let two : Some w.pin ≡ Some s.pin = sym w.stands ∙ ap (λ (x : ℕ). slice_get p.net.pins x) z ∙ s.pin_is in
      let pin : w.pin ≡ s.pin = cc two in
      let n : s.index ≡ p.number = omega (arith, s.number_is) in (
        sym
            (ap (λ (x : NetPin). enables_where board row.setting x.at) pin
            ∙ ap (λ (o : Option PinAt). enables_where board row.setting o) s.at_is) ∙ w.enabled,
        (w.unguarded, (s.pin, s.pin_is, s.at_is), subst (λ (x : ℕ). slice_get board.nets x ≡ Some p.net) n s.net_is),
      )

  off_idle : (at : PinAt) → enables_at board row.setting at ≡ false → data_place board row (place_of at 0 board.nets) ≡ None
  off_idle at off = by_place (place_of at 0 board.nets) refl
    where
      by_test : (p : Place) (i : ℕ) → place_of at 0 board.nets ≡ Some p → observing_driver board row.setting p.net ≡ Some i → (b : Bool) →
          (i == p.place) ≡ b → only_if b (row.carried p.number) ≡ None
      by_test p i e observing true q = absurd (both_ways (enables_at board row.setting at) off (carries_code at p i e observing q).0)
      by_test p i e observing false q = refl

      by_driver : (p : Place) → place_of at 0 board.nets ≡ Some p → (o : Option ℕ) → observing_driver board row.setting p.net ≡ o →
          data_observed (row.carried p.number) p.place o ≡ None
      by_driver p e None q = refl
      by_driver p e (Some i) q = by_test p i e q (i == p.place) refl

      by_place : (o : Option Place) → place_of at 0 board.nets ≡ o → data_place board row o ≡ None
      by_place None e = refl
      by_place (Some p) e = by_driver p e (observing_driver board row.setting p.net) refl

  pub live_on : (n : ℕ) (net : Net) (i : ℕ) (p : NetPin) → slice_get board.nets n ≡ Some net → slice_get net.pins i ≡ Some p →
      live board (pin_states chain) p ≡ true → enables board row.setting p ≡ true
  live_on n net i p en ei on = by_rules ((rules.nets n net en).pins i p ei)
    where
      by_test : (at : PinAt) (part : Part) (device : RawDevice) → p.at ≡ Some at → slice_get board.chain at.part ≡ Some part →
          part.kind ≡ Described device → IsWired device → is_pinned board at ≡ true → (b : Bool) → enables_at board row.setting at ≡ b →
          enables board row.setting p ≡ true
      by_test at part device a ek ed wired pinned true q = ap (λ (o : Option PinAt). enables_where board row.setting o) a ∙ q
      by_test at part device a ek ed wired pinned false q =
          absurd (both_ways (live board (pin_states chain) p)
          (ap (λ (o : Option PinAt). live_where board (pin_states chain) o) a
          ∙ dead_if_off board row before chain at.part at.bit part device h ek ed wired pinned q (off_idle at q)) on)

      by_rules : PinRules board n net i p → enables board row.setting p ≡ true
      by_rules (apart a) =
          absurd
          (both_ways (live board (pin_states chain) p)
          (ap (λ (o : Option PinAt). live_where board (pin_states chain) o) a) on)
      by_rules (placed at part device a ek ed wired pinned place) =
          by_test at part device a ek ed wired pinned (enables_at board row.setting at) refl

  set_within : (c : Ctl) → latched_setting board (pin_states chain) c ≡ true → row.setting c ≡ true
  set_within c on = by_device (device_at board c.part) refl on
    where
      by_entry : (device : RawDevice) (d : DeviceOf board c.part device) (e : Cell) (i : ℕ) (control : Control) (b : ℕ) →
          slice_get device.cells i ≡ Some e → e.ctl ≡ Some control → control.cell ≡ c.cell → is_driving e.role ≡ true → e.bit ≡ Some b →
          is_pinned board (record { part = c.part; bit = b }) ≡ true →
          list_any (controls_driver board c.part c.cell) device.cells ≡ true
          → differs (latch (pin_states chain) c.part c.cell) (disable_of device c.cell) ≡ true
          → (x : Bool) → row.setting c ≡ x → row.setting c ≡ true
      by_entry device d e i control b ei ec same driving eb pinned controls on true q = q
      by_entry device d e i control b ei ec same driving eb pinned controls on false q =
          let wired = rules.devices c.part d.part device d.at_k d.kind_is in
          let at : PinAt = record { part = c.part; bit = b } in
          let dev : device_at board c.part
          ≡ Some device = ap (λ (o : Option Part). option_and_then (λ p. described p.kind) o)
          d.at_k ∙ ap described d.kind_is in
          let drives : drives_bit b e
          ≡ true = ap (λ (o : Option ℕ). is_on b o && is_driving e.role) eb
          ∙ ap (λ (y : Bool). y && is_driving e.role) (eq-eqb b b refl) ∙ driving in
          let off : enables_at board row.setting at ≡ false =
          ap (λ (o : Option RawDevice). enables_entry row.setting c.part (option_and_then (λ x. driving_entry x b) o)) dev
          ∙ is_off (driving_entry device b) refl drives in
          let no_data : data_bit board row c.part device c.cell ≡ None = no_code drives off (driving_cell device c.cell) refl in
          let disable : disable_of device c.cell
          ≡ Some control.disable = ap (λ (x : ℕ). disable_of device x) (sym same)
          ∙ wired.one_disable i e control ei ec in
          let below : c.cell < device.boundary = subst (λ (x : ℕ). x < device.boundary) same (wired.below i e control ei ec) in
          let bit : latch (pin_states chain) c.part c.cell ≡ control.disable =
          latch_is board t chain c.part d.part device h d.at_k d.kind_is c.cell below
          ∙ ap (λ (o : Option Bool). unwrap_or o (steady_bit board row.setting c.part device c.cell)) no_data
          ∙ ap
          (λ (y : Bool). cond y
          (cond (row.setting c) (not (unwrap_or (disable_of device c.cell) false))
          (unwrap_or (disable_of device c.cell) false))
          (unwrap_or (safe_bit device c.cell) false)) controls
          ∙ ap (λ (y : Bool). cond y (not (unwrap_or (disable_of device c.cell) false)) (unwrap_or (disable_of device c.cell) false)) q
          ∙ ap (λ (o : Option Bool). unwrap_or o false) disable in
          absurd (both_ways (differs (latch (pin_states chain) c.part c.cell) (disable_of device c.cell))
          (ap (λ (x : Bool). differs x (disable_of device c.cell)) bit ∙ ap
          (λ (o : Option Bool). differs control.disable o) disable ∙ not_differs
          control.disable) on)
        where
          is_off : (o : Option Cell) → driving_entry device b ≡ o → drives_bit b e ≡ true → enables_entry row.setting c.part o ≡ false
          is_off None z drives = refl
          is_off (Some x) z drives =
              let f = found (drives_bit b) device.cells x z in
              let y : x ≡ e = (rules.devices c.part d.part device d.at_k d.kind_is).one_driver i f.1.0 e x b ei drives f.1.1 f.0 in
              ap (λ (v : Cell). enables_by row.setting c.part v.ctl) y
              ∙ ap (λ (v : Option Control). enables_by row.setting c.part v) ec
              ∙ ap (λ (v : ℕ). row.setting (record { part = c.part; cell = v })) same
              ∙ q

          no_code : drives_bit b e ≡ true → enables_at board row.setting (record { part = c.part; bit = b }) ≡ false → (o : Option Cell) →
              driving_cell device c.cell ≡ o → option_and_then (λ x. data_pin board row c.part x.bit) o ≡ None
          no_code drives off None z = refl
          no_code drives off (Some x) z =
              let f = found (λ y. (y.num == c.cell) && is_driving y.role) device.cells x z in
              let fx = and_parts (x.num == c.cell) (is_driving x.role) f.0 in
              let y : x
              ≡ e = (rules.devices c.part d.part device d.at_k d.kind_is).own i f.1.0 e x
              control ei ec driving f.1.1 fx.1 (eqb-true x.num c.cell fx.0 ∙ sym same) in
              ap (λ (v : Cell). data_pin board row c.part v.bit) y
              ∙ ap (λ (o : Option ℕ). data_pin board row c.part o) eb
              ∙ off_idle (record { part = c.part; bit = b }) off

      by_device : (o : Option RawDevice) → device_at board c.part ≡ o →
          set_in board c.part c.cell (latch (pin_states chain) c.part c.cell) o ≡ true → row.setting c ≡ true
      by_device None e q = cc q
      by_device (Some device) e q =
          let x = and_parts (list_any (controls_driver board c.part c.cell) device.cells)
          (differs (latch (pin_states chain) c.part c.cell) (disable_of device c.cell)) q in
          let y = any_is (controls_driver board c.part c.cell) device.cells x.0 in
          let parts = and_three (is_control_of c.cell y.1.ctl) (is_driving y.1.role)
          (unwrap_or
          (option_map (λ bit. is_pinned board (record { part = c.part; bit = bit })) y.1.bit)
          false) y.3 in
          let k = control_is c.cell y.1.ctl parts.0 in
          let b = pinned_is board c.part y.1.bit parts.2 in
          by_entry device (device_of board c.part device e) y.1 y.0 k.0 b.0 y.2 k.1 k.2 parts.1 b.1 b.2 x.0 x.1 (row.setting c) refl

  pub safely_set : IsSafelySet board (pin_states chain)
  safely_set = inr (
    (λ k device e. let d = device_of board k device e in extest_is board t chain k d.part device h d.at_k d.kind_is),
    safe_within board (latched_setting board (pin_states chain)) row.setting set_within safe,
  )

  pub keeps_safe : KeepsSafeValues board (pin_states chain)
  keeps_safe k cell device v e extest below controls drives value =
      let d = device_of board k device e in
      latch_is board t chain k d.part device h d.at_k d.kind_is cell below
      ∙ ap (λ (o : Option Bool). unwrap_or o (steady_bit board row.setting k device cell)) (no_code (driving_cell device cell) refl)
      ∙ ap
      (λ (y : Bool). cond y
      (cond (row.setting (record { part = k; cell = cell }))
      (not (unwrap_or (disable_of device cell) false))
      (unwrap_or (disable_of device cell) false)) (unwrap_or (safe_bit device cell) false))
      controls
      ∙ ap (λ (o : Option Bool). unwrap_or o false) value
    where
      at : ℕ → PinAt
      at b = record { part = k; bit = b }

      no_code : (o : Option Cell) → driving_cell device cell ≡ o → option_and_then (λ x. data_pin board row k x.bit) o ≡ None
      no_code None z = refl
      no_code (Some x) z = by_bit x.bit refl
        where
          by_test : (b : ℕ) (p : Place) (i : ℕ) → x.bit ≡ Some b → place_of (record { part = k; bit = b }) 0 board.nets ≡ Some p →
              observing_driver board row.setting p.net ≡ Some i → (y : Bool) → (i == p.place) ≡ y → only_if y (row.carried p.number) ≡ None
          by_test b p i xb e observing false q = refl
          by_test b p i xb e observing true q =
              let r = carries_code (record { part = k; bit = b }) p i e observing q in
              let f = found (λ y. (y.num == cell) && is_driving y.role) device.cells x z in
              let fx = and_parts (x.num == cell) (is_driving x.role) f.0 in
              let one : is_at (record { part = k; bit = b }) (Some (record { part = k; bit = b }))
              ≡ true = ap (λ (y : Bool). y && (b == b)) (eq-eqb k k refl) ∙ eq-eqb b b refl in
              let pins : list_any (λ y. is_at (record { part = k; bit = b }) y.at) p.net.pins ≡ true =
              any_at {X = NetPin} (λ y. is_at (record { part = k; bit = b }) y.at) p.net.pins
              p.place r.1.1.0 r.1.1.1
              (ap (λ (o : Option PinAt). is_at (record { part = k; bit = b }) o) r.1.1.2 ∙ one)
              in
              let test : (not (guarded board p.net) && list_any (λ y. is_at (record { part = k; bit = b }) y.at) p.net.pins) ≡ true =
              ap (λ (y : Bool). not y && list_any (λ y. is_at (record { part = k; bit = b }) y.at) p.net.pins) r.1.0 ∙ pins in
              let nets : list_any
              (λ net. not (guarded board net)
              && list_any (λ y. is_at (record { part = k; bit = b }) y.at) net.pins)
              board.nets ≡ true =
              any_at {X = Net}
              (λ net. not (guarded board net)
              && list_any (λ y. is_at (record { part = k; bit = b }) y.at) net.pins) board.nets
              p.number p.net r.1.2 test in
              let here : drives_unguarded board k cell x ≡ true =
              ap
              (λ (y : Bool). y && is_driving x.role
              && unwrap_or
              (option_map
              (λ bit. list_any
              (λ net. not (guarded board net)
              && list_any (λ y. is_at (record { part = k; bit = bit }) y.at)
              net.pins) board.nets) x.bit) false) fx.0
              ∙ ap
              (λ (y : Bool). y
              && unwrap_or
              (option_map
              (λ bit. list_any
              (λ net. not (guarded board net)
              && list_any (λ y. is_at (record { part = k; bit = bit }) y.at)
              net.pins) board.nets) x.bit) false) fx.1
              ∙ ap
              (λ (o : Option ℕ). unwrap_or
              (option_map
              (λ bit. list_any
              (λ net. not (guarded board net)
              && list_any (λ y. is_at (record { part = k; bit = bit }) y.at)
              net.pins) board.nets) o) false) xb
              ∙ nets in
              absurd
              (both_ways (list_any (drives_unguarded board k cell) device.cells) drives
              (any_at (drives_unguarded board k cell) device.cells f.1.0 x f.1.1 here))

          by_driver : (b : ℕ) (p : Place) → x.bit ≡ Some b → place_of (record { part = k; bit = b }) 0 board.nets ≡ Some p →
              (o : Option ℕ) → observing_driver board row.setting p.net ≡ o → data_observed (row.carried p.number) p.place o ≡ None
          by_driver b p xb e None q = refl
          by_driver b p xb e (Some i) q = by_test b p i xb e q (i == p.place) refl

          by_place : (b : ℕ) → x.bit ≡ Some b → (o : Option Place) → place_of (record { part = k; bit = b }) 0 board.nets ≡ o →
              data_place board row o ≡ None
          by_place b xb None e = refl
          by_place b xb (Some p) e = by_driver b p xb e (observing_driver board row.setting p.net) refl

          by_bit : (o : Option ℕ) → x.bit ≡ o → data_pin board row k o ≡ None
          by_bit None xb = refl
          by_bit (Some b) xb = by_place b xb (place_of (record { part = k; bit = b }) 0 board.nets) refl

-- No two drivers of a net conflict between two moments at which only drivers of one safe setting are live.
pub uncontested : (board : RawBoard) (setting : Enabling) → IsSafe board setting → (now next : List PinState) →
    ((n : ℕ) (net : Net) (i : ℕ) (p : NetPin) → slice_get board.nets n ≡ Some net
    → slice_get net.pins i ≡ Some p → live board now p ≡ true
    → enables board setting p ≡ true) →
    ((n : ℕ) (net : Net) (i : ℕ) (p : NetPin) → slice_get board.nets n ≡ Some net
    → slice_get net.pins i ≡ Some p → live board next p ≡ true
    → enables board setting p ≡ true) → IsUncontested board now next
uncontested board setting safe now next f g n net i j p q en ep eq ne lp lq =
    safe.one n net i j p q en ep eq ne
    (on i p ep (live board now p) (live board next p) refl refl lp)
    (on j q eq (live board now q) (live board next q) refl refl lq)
  where
    on : (i : ℕ) (p : NetPin) → slice_get net.pins i ≡ Some p → (x y : Bool) → live board now p ≡ x → live board next p ≡ y →
        (x || y) ≡ true → enables board setting p ≡ true
    on i p e true y a b h = f n net i p en e a
    on i p e false true a b h = g n net i p en e b
    on i p e false false a b h = cc h
