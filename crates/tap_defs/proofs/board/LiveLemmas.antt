-- The live drivers while a row of a pass is in the latches.
use Rattle.std.proofs.Common.{◌≡◌, ℕ, zero, suc, ◌<◌, ◌==◌, Bool, true, false, cond, not, ◌&&◌, List, [], ◌∷◌, Option, Some, None, refl, sym, ◌∙◌, ap, subst, zero-add}
use Rattle.std.specs.Prelude.{slice_get, unwrap_or, option_map, option_and_then, find}
use Rattle.std.specs.List.{list_any}
use Rattle.std.proofs.lemmas.Option.{slice_get-map}
use Rattle.board_defs.specs.declared.device.Control.{Control}
use Rattle.board_defs.specs.declared.device.Cell.{Cell}
use Rattle.board_defs.specs.declared.device.RawDevice.{RawDevice}
use Rattle.board_defs.specs.declared.board.PartKind.{PartKind}
use Rattle.board_defs.specs.declared.board.PartKind.TheVariants.{Described}
use Rattle.board_defs.specs.declared.board.Part.{Part}
use Rattle.board_defs.specs.declared.board.PinAt.{PinAt}
use Rattle.board_defs.specs.declared.board.RawBoard.{RawBoard}
use Rattle.board_defs.specs.DeviceRules.{is_driving, drives_bit, driving_entry, is_on, disable_of, is_control_of}
use Rattle.board_defs.specs.Pins.{device_at, described, entry_at, is_same, is_pinned}
use Rattle.board_defs.specs.Settings.{enables_at, enables_entry, enables_by}
use Rattle.board_defs.proofs.Places.{any_at}
use Rattle.board_defs.proofs.CellLemmas.{on_is}
use Rattle.tap_defs.specs.chain.TestLogic.{Instruction, Extest}
use Rattle.tap_defs.specs.chain.Part.{PinState, pin_state}
use Rattle.tap_defs.specs.chain.ShiftRegister.{filled}
use Rattle.tap_defs.specs.chain.Chain.{ChainPart, pin_states}
use Rattle.tap_defs.specs.board.NetBits.{place_of, in_extest, latch, is_extest, live_where, live_entry, is_on_by}
use Rattle.tap_defs.specs.chain.Scan.{ScanBit, tdi_bits}
use Rattle.tap_defs.specs.chain.ChainRegisters.{held_bits, selected_by}
use Rattle.tap_defs.specs.board.Quiet.{controls_driver, safe_bit}
use Rattle.tap_defs.specs.board.TestRows.{TestRow, row_bit, steady_bit, data_bit, data_pin, data_place, driving_cell, expect_bit}
use Rattle.tap_defs.specs.board.BoardScans.{RowScan, part_bits, row_bits}
use Rattle.std.proofs.lemmas.Bool.{and_parts, eq-eqb, eqb-true, both_ways}
use Rattle.std.proofs.Math.Bool.{and-false}
use Rattle.tap_defs.proofs.board.InTestLemmas.{in_test, InTest, shifted_row}
use Rattle.tap_defs.proofs.chain.ScanLemmas.{filled_at}
use Rattle.tap_defs.proofs.board.WrongLemmas.{bits_at}

-- the rules of devices that these proofs need: about control cells, driving entries and the numbers of cells
pub record IsWired (device : RawDevice) : Type 0 where
  pub below : (i : ℕ) (e : Cell) (control : Control) → slice_get device.cells i ≡ Some e → e.ctl ≡ Some control →
      control.cell < device.boundary
  pub one_disable : (i : ℕ) (e : Cell) (control : Control) → slice_get device.cells i ≡ Some e → e.ctl ≡ Some control →
      disable_of device control.cell ≡ Some control.disable
  pub num_below : (i : ℕ) (e : Cell) → slice_get device.cells i ≡ Some e → e.num < device.boundary
  pub one_cell : (i j : ℕ) (e d : Cell) → slice_get device.cells i ≡ Some e → is_driving e.role ≡ true → slice_get device.cells j ≡ Some d →
      is_driving d.role ≡ true → d.num ≡ e.num → d ≡ e
  pub one_driver : (i j : ℕ) (e d : Cell) (b : ℕ) → slice_get device.cells i ≡ Some e → drives_bit b e ≡ true →
      slice_get device.cells j ≡ Some d → drives_bit b d ≡ true → d ≡ e
  pub own : (i j : ℕ) (e d : Cell) (control : Control) → slice_get device.cells i ≡ Some e → e.ctl ≡ Some control →
      is_driving e.role ≡ true → slice_get device.cells j ≡ Some d → is_driving d.role ≡ true → d.num ≡ control.cell → d ≡ e

found_by : (p : Cell → Bool) (xs : List Cell) (x y : Cell) → (find p xs ≡ Some x → (p x ≡ true) × ((i : ℕ) × (slice_get xs i ≡ Some x))) →
    (b : Bool) → p y ≡ b → cond b (Some y) (find p xs) ≡ Some x → (p x ≡ true) × ((i : ℕ) × (slice_get (y ∷ xs) i ≡ Some x))
found_by p xs x y ih true q h = let z : y ≡ x = cc h in (subst (λ (w : Cell). p w ≡ true) z q, (0, h))
found_by p xs x y ih false q h = let r = ih h in (r.0, (suc r.1.0, r.1.1))

pub found : (p : Cell → Bool) (xs : List Cell) (x : Cell) → find p xs ≡ Some x → (p x ≡ true) × ((i : ℕ) × (slice_get xs i ≡ Some x))
found p [] x e = cc e
found p (y ∷ xs) x e = found_by p xs x y (found p xs x) (p y) refl e

pub find_some : (p : Cell → Bool) (xs : List Cell) (i : ℕ) (x : Cell) → slice_get xs i ≡ Some x → p x ≡ true →
    (y : Cell) × (find p xs ≡ Some y)
find_some p [] i x e q = cc e
find_some p (y ∷ xs) zero x e q = let z : y ≡ x = cc e in (y, ap (λ (b : Bool). cond b (Some y) (find p xs)) (ap p z ∙ q))
find_some p (y ∷ xs) (suc i) x e q = by_head (p y) (find_some p xs i x e q)
  where
    by_head : (b : Bool) → (z : Cell) × (find p xs ≡ Some z) → (z : Cell) × (cond b (Some y) (find p xs) ≡ Some z)
    by_head true r = (y, refl)
    by_head false r = r

-- the state of a described part during a test: it has EXTEST, and its latches hold its bits of the row
pub record UnderTest (row : List Bool) (chain : List ChainPart) (k : ℕ) : Type 0 where
  pub node : ChainPart
  pub at_k : slice_get chain k ≡ Some node
  pub current : node.state.current ≡ Extest
  pub latches : node.state.latches ≡ row

pub under_test : (board : RawBoard) (row : List (List Bool)) (chain : List ChainPart) (k : ℕ)
    (part : Part) (device : RawDevice) (r : List Bool) →
    InTest board row chain → slice_get board.chain k ≡ Some part → part.kind ≡ Described device → slice_get row k ≡ Some r →
    UnderTest r chain k
under_test board row chain k part device r h ek ed er = go (slice_get chain k) refl
  where
    currents : option_map (λ n. n.state.current) (slice_get chain k) ≡ Some Extest
    currents =
        sym (slice_get-map (λ (n : ChainPart). n.state.current) chain k)
        ∙ ap (λ (l : List Instruction). slice_get l k) h.currents
        ∙ slice_get-map (λ (p : Part). in_test p.kind) board.chain k
        ∙ ap (λ (o : Option Part). option_map (λ p. in_test p.kind) o) ek
        ∙ ap (λ (kind : PartKind). Some (in_test kind)) ed

    stays : option_map (λ n. held_bits n.state) (slice_get chain k) ≡ Some r
    stays = sym (slice_get-map (λ (n : ChainPart). held_bits n.state) chain k) ∙ ap (λ (l : List (List Bool)). slice_get l k) h.stays ∙ er

    go : (o : Option ChainPart) → slice_get chain k ≡ o → UnderTest r chain k
    go None e = let z : None ≡ Some r = sym (ap (λ (o : Option ChainPart). option_map (λ n. held_bits n.state) o) e) ∙ stays in cc z
    go (Some node) e =
        let c : Some node.state.current
        ≡ Some Extest = sym
        (ap (λ (o : Option ChainPart). option_map (λ n. n.state.current) o) e) ∙ currents in
        let c1 : node.state.current ≡ Extest = cc c in
        let s : Some (held_bits node.state)
        ≡ Some r = sym (ap (λ (o : Option ChainPart). option_map (λ n. held_bits n.state) o) e)
        ∙ stays in
        let s1 : held_bits node.state ≡ r = cc s in
        record {
          node = node;
          at_k = e;
          current = c1;
          latches = sym
              (ap
              (λ (i : Instruction). selected_by i node.state.latches node.state.bypass
              node.state.identification) c1) ∙ s1;
        }

tdis_at : (bs : List ScanBit) (c : ℕ) (b : ScanBit) → slice_get bs c ≡ Some b → slice_get (tdi_bits bs) c ≡ Some b.tdi
tdis_at bs c b e = slice_get-map (λ (x : ScanBit). x.tdi) bs c ∙ ap (λ (o : Option ScanBit). option_map (λ x. x.tdi) o) e

module _ (board : RawBoard) (t : RowScan) (chain : List ChainPart) (k : ℕ) (part : Part)
    (device : RawDevice) (h : InTest board (shifted_row board t) chain)
    (ek : slice_get board.chain k ≡ Some part) (ed : part.kind ≡ Described device) where
  row_at : slice_get (shifted_row board t) k ≡ Some (tdi_bits (part_bits board t k (Described device)))
  row_at =
      slice_get-map tdi_bits (row_bits board t) k
      ∙ ap (λ (o : Option (List ScanBit)). option_map tdi_bits o) (bits_at board t 0 board.chain k part ek)
      ∙ ap (λ (i : ℕ). Some (tdi_bits (part_bits board t i part.kind))) (zero-add k)
      ∙ ap (λ (kind : PartKind). Some (tdi_bits (part_bits board t k kind))) ed

  pub state : UnderTest (tdi_bits (part_bits board t k (Described device))) chain k
  state = under_test board (shifted_row board t) chain k part device (tdi_bits (part_bits board t k (Described device))) h ek ed row_at

  shown_at : slice_get (pin_states chain) k ≡ Some (pin_state state.node.state)
  shown_at =
      slice_get-map (λ (n : ChainPart). pin_state n.state) chain k
      ∙ ap (λ (o : Option ChainPart). option_map (λ n. pin_state n.state) o) state.at_k

  pub extest_is : in_extest (pin_states chain) k ≡ true
  extest_is =
      ap (λ (o : Option PinState). unwrap_or (option_map (λ n. is_extest n.current) o) false) shown_at
      ∙ ap is_extest state.current

  pub latch_is : (c : ℕ) → c < device.boundary → latch (pin_states chain) k c ≡ row_bit board t.now k device c
  latch_is c below =
      let cells : ℕ → ScanBit = λ x. record { tdi = row_bit board t.now k device x; expect = expect_bit board t.before k device x } in
      ap (λ (o : Option PinState). unwrap_or (option_and_then (λ n. slice_get n.latches c) o) false) shown_at
      ∙ ap (λ (l : List Bool). unwrap_or (slice_get l c) false) state.latches
      ∙ ap (λ (o : Option Bool). unwrap_or o false)
      (tdis_at (filled device.boundary cells) c (cells c)
      (filled_at device.boundary cells c below))

pub same_self : (b : Bool) → not (is_same b b) ≡ false
same_self true = refl
same_self false = refl

-- While a row is in the latches, a driver is not live if the row's setting does not enable it and its cell carries no
-- net's bit.
pub dead_if_off : (board : RawBoard) (row before : TestRow) (chain : List ChainPart) (k b : ℕ) (part : Part) (device : RawDevice) →
    let t : RowScan = record { now = row; before = before } in
    let at : PinAt = record { part = k; bit = b } in
    InTest board (shifted_row board t) chain → slice_get board.chain k ≡ Some part → part.kind ≡ Described device → IsWired device →
    is_pinned board at ≡ true → enables_at board row.setting at ≡ false → data_place board row (place_of at 0 board.nets) ≡ None →
    live_where board (pin_states chain) (Some at) ≡ false
dead_if_off board row before chain k b part device h ek ed wired pinned off idle =
    ap (λ (o : Option Cell). live_entry (pin_states chain) k o) entry_is ∙ go (driving_entry device b) refl
  where
    t : RowScan
    t = record { now = row; before = before }

    at : PinAt
    at = record { part = k; bit = b }

    dev : device_at board k ≡ Some device
    dev = ap (λ (o : Option Part). option_and_then (λ p. described p.kind) o) ek ∙ ap described ed

    entry_is : entry_at board at ≡ driving_entry device b
    entry_is = ap (λ (o : Option RawDevice). option_and_then (λ d. driving_entry d b) o) dev

    off_entry : enables_entry row.setting k (driving_entry device b) ≡ false
    off_entry = sym (ap (λ (o : Option Cell). enables_entry row.setting k o) entry_is) ∙ off

    by_ctl : (e : Cell) (i : ℕ) → drives_bit b e ≡ true → slice_get device.cells i ≡ Some e → (o : Option Control) → e.ctl ≡ o →
        enables_by row.setting k o ≡ false → (in_extest (pin_states chain) k && is_on_by (pin_states chain) k o) ≡ false
    by_ctl e i de ei None q x = cc x
    by_ctl e i de ei (Some control) q x =
        let parts = and_parts (is_on b e.bit) (is_driving e.role) de in
        let controls : list_any (controls_driver board k control.cell) device.cells ≡ true =
        any_at (controls_driver board k control.cell) device.cells i e ei
        (ap
        (λ (o : Option Control). is_control_of control.cell o && is_driving e.role && unwrap_or
        (option_map (λ bit. is_pinned board (record { part = k; bit = bit })) e.bit) false) q
        ∙ ap
        (λ (y : Bool). y && is_driving e.role
        && unwrap_or
        (option_map (λ bit. is_pinned board (record { part = k; bit = bit })) e.bit) false)
        (eq-eqb control.cell control.cell refl)
        ∙ ap (λ (y : Bool). y && unwrap_or (option_map (λ bit. is_pinned board (record { part = k; bit = bit })) e.bit) false) parts.1
        ∙ ap
        (λ (o : Option ℕ). unwrap_or
        (option_map (λ bit. is_pinned board (record { part = k; bit = bit })) o) false)
        (on_is b e.bit parts.0)
        ∙ pinned) in
        let steady_is : steady_bit board row.setting k device control.cell ≡ control.disable =
        ap
        (λ (y : Bool). cond y
        (cond (row.setting (record { part = k; cell = control.cell }))
        (not (unwrap_or (disable_of device control.cell) false))
        (unwrap_or (disable_of device control.cell) false))
        (unwrap_or (safe_bit device control.cell) false)) controls
        ∙ ap
        (λ (y : Bool). cond y (not (unwrap_or (disable_of device control.cell) false))
        (unwrap_or (disable_of device control.cell) false)) x
        ∙ ap (λ (o : Option Bool). unwrap_or o false) (wired.one_disable i e control ei q) in
        let no_data : data_bit board row k device control.cell
        ≡ None = no_code e i de ei control q (driving_cell device control.cell) refl in
        let bit : latch (pin_states chain) k control.cell ≡ control.disable =
        latch_is board t chain k part device h ek ed control.cell (wired.below i e control ei q)
        ∙ ap (λ (o : Option Bool). unwrap_or o (steady_bit board row.setting k device control.cell)) no_data
        ∙ steady_is in
        ap (λ (y : Bool). in_extest (pin_states chain) k && not (is_same y control.disable)) bit
        ∙ ap (λ (y : Bool). in_extest (pin_states chain) k && y) (same_self control.disable)
        ∙ and-false (in_extest (pin_states chain) k)
      where
        no_code : (e : Cell) (i : ℕ) → drives_bit b e ≡ true → slice_get device.cells i ≡ Some e → (control : Control) →
            e.ctl ≡ Some control → (o : Option Cell) → driving_cell device control.cell ≡ o →
            option_and_then (λ d. data_pin board row k d.bit) o ≡ None
        no_code e i de ei control q None z = refl
        no_code e i de ei control q (Some d) z =
            let f = found (λ c. (c.num == control.cell) && is_driving c.role) device.cells d z in
            let fd = and_parts (d.num == control.cell) (is_driving d.role) f.0 in
            let parts = and_parts (is_on b e.bit) (is_driving e.role) de in
            let same : d ≡ e = wired.own i f.1.0 e d control ei q parts.1 f.1.1 fd.1 (eqb-true d.num control.cell fd.0) in
            ap (λ (c : Cell). data_pin board row k c.bit) same
            ∙ ap (λ (o : Option ℕ). data_pin board row k o) (on_is b e.bit parts.0)
            ∙ idle

    go : (o : Option Cell) → driving_entry device b ≡ o → live_entry (pin_states chain) k o ≡ false
    go None e = refl
    go (Some c) e =
        let f = found (drives_bit b) device.cells c e in
        by_ctl c f.1.0 f.0 f.1.1 c.ctl refl (sym (ap (λ (o : Option Cell). enables_entry row.setting k o) e) ∙ off_entry)

-- The latch of a control in the setting has the opposite of the disable value, unless the control is the driver's own
-- cell.
pub control_on : (board : RawBoard) (row before : TestRow) (chain : List ChainPart) (at : PinAt) (part : Part) (device : RawDevice) →
    InTest board (shifted_row board (record { now = row; before = before })) chain → slice_get board.chain at.part ≡ Some part →
    part.kind ≡ Described device → IsWired device → is_pinned board at ≡ true → (e : Cell) (i : ℕ) → drives_bit at.bit e ≡ true →
    slice_get device.cells i ≡ Some e → (control : Control) → e.ctl ≡ Some control →
    row.setting (record { part = at.part; cell = control.cell }) ≡ true → (control.cell == e.num) ≡ false →
    latch (pin_states chain) at.part control.cell ≡ not control.disable
control_on board row before chain at part device h ek ed wired pinned e i de ei control q on apart_is =
    let parts = and_parts (is_on at.bit e.bit) (is_driving e.role) de in
    let controls : list_any (controls_driver board at.part control.cell) device.cells ≡ true =
    any_at (controls_driver board at.part control.cell) device.cells i e ei
    (ap
    (λ (o : Option Control). is_control_of control.cell o && is_driving e.role && unwrap_or
    (option_map (λ bit. is_pinned board (record { part = at.part; bit = bit })) e.bit) false) q
    ∙ ap
    (λ (y : Bool). y && is_driving e.role
    && unwrap_or
    (option_map (λ bit. is_pinned board (record { part = at.part; bit = bit })) e.bit)
    false) (eq-eqb control.cell control.cell refl)
    ∙ ap (λ (y : Bool). y && unwrap_or (option_map (λ bit. is_pinned board (record { part = at.part; bit = bit })) e.bit) false) parts.1
    ∙ ap
    (λ (o : Option ℕ). unwrap_or
    (option_map (λ bit. is_pinned board (record { part = at.part; bit = bit })) o) false)
    (on_is at.bit e.bit parts.0)
    ∙ pinned) in
    latch_is board (record { now = row; before = before }) chain at.part part device h ek ed control.cell (wired.below i e control ei q)
    ∙ ap
    (λ (o : Option Bool). unwrap_or o (steady_bit board row.setting at.part device control.cell))
    (no_data (driving_cell device control.cell) refl)
    ∙ ap
    (λ (y : Bool). cond y
    (cond (row.setting (record { part = at.part; cell = control.cell }))
    (not (unwrap_or (disable_of device control.cell) false))
    (unwrap_or (disable_of device control.cell) false))
    (unwrap_or (safe_bit device control.cell) false)) controls
    ∙ ap
    (λ (y : Bool). cond y (not (unwrap_or (disable_of device control.cell) false))
    (unwrap_or (disable_of device control.cell) false)) on
    ∙ ap (λ (o : Option Bool). not (unwrap_or o false)) (wired.one_disable i e control ei q)
  where
    no_data : (o : Option Cell) → driving_cell device control.cell ≡ o → option_and_then (λ c. data_pin board row at.part c.bit) o ≡ None
    no_data None z = refl
    no_data (Some c) z =
        let parts = and_parts (is_on at.bit e.bit) (is_driving e.role) de in
        let f = found (λ x. (x.num == control.cell) && is_driving x.role) device.cells c z in
        let fc = and_parts (c.num == control.cell) (is_driving c.role) f.0 in
        let num : c.num ≡ control.cell = eqb-true c.num control.cell fc.0 in
        let same : c ≡ e = wired.own i f.1.0 e c control ei q parts.1 f.1.1 fc.1 num in
        let back : control.cell ≡ e.num = sym num ∙ ap (λ (x : Cell). x.num) same in
        absurd
        (both_ways (control.cell == e.num) apart_is
        (ap (λ (x : ℕ). control.cell == x) (sym back)
        ∙ eq-eqb control.cell control.cell refl))
