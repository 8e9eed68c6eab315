-- Proofs that three walks over the entries of a device give the bits of the device in the quiet row, which disables every driver that has a
-- control.
use Rattle.std.proofs.Common.{◌≡◌, ℕ, zero, suc, ◌<◌, ◌==◌, Bool, true, false, cond, ◌&&◌, List, [], ◌∷◌, length, get_or, set, replicate, Option, Some, None, unwrap_or, refl, sym, ap, ◌∙◌, arith, ◌⊎◌, inl, inr}
use Rattle.std.specs.Prelude.{slice_get, option_and_then, option_map, filter_map}
use Rattle.std.specs.List.{list_any, cons_option}
use Rattle.std.proofs.lemmas.Bool.{and_parts, eq-eqb, eqb-true}
use Rattle.std.proofs.lemmas.Option.{get_or_from_slice_get}
use Rattle.board_defs.specs.declared.device.Symbol.{Symbol}
use Rattle.board_defs.specs.declared.device.Symbol.TheVariants.{Zero, One, Any}
use Rattle.board_defs.specs.declared.device.Role.{Role}
use Rattle.board_defs.specs.declared.device.Control.{Control}
use Rattle.board_defs.specs.declared.device.Cell.{Cell}
use Rattle.board_defs.specs.declared.device.RawDevice.{RawDevice}
use Rattle.board_defs.specs.declared.board.RawBoard.{RawBoard}
use Rattle.board_defs.specs.DeviceRules.{IsDevice, OneOf, is_driving, is_reading, is_writing, is_control_of, bit_of, entry_of, reading_entry, writing_entry, or_entry, disable_of}
use Rattle.board_defs.specs.Pins.{is_pinned}
use Rattle.board_defs.proofs.Members.{Has, has_at, has_place, has_filter_map, filter_map_has}
use Rattle.board_defs.proofs.Places.{any_at, all_stands}
use Rattle.tap_defs.specs.chain.ShiftRegister.{filled}
use Rattle.tap_defs.specs.board.Quiet.{controls_driver, safe_bit, symbol_value}
use Rattle.tap_defs.proofs.chain.ListLemmas.{length-filled}
use Rattle.tap_defs.proofs.chain.ScanLemmas.{filled_at}
use Rattle.tap_defs.proofs.board.LiveLemmas.{IsWired, found, find_some}
use Rattle.tap_defs.proofs.board.NetRuleLemmas.{wired, read}
use Rattle.tap_defs.proofs.board.QuietLemmas.{control_is}
use Rattle.tap_defs.proofs.board.ReadingLemmas.{any_is}
use Rattle.plan_tables.specs.declared.quiet.CellBit.{CellBit}
use Rattle.plan_tables.specs.Assigned.{assigned}
use Rattle.plan_tables.specs.inner.Laid.{quiet_bits}
use Rattle.plan_tables.specs.inner.QuietBits.{safe_value_in, is_driver, disable_value_in, set_some, set_by, quiet_values}
use Rattle.plan_tables.proofs.AssignLemmas.{assigned_is}

set_by_is : (gives : Cell → Option CellBit) (bits : List Bool) (entries : List Cell)
    → set_by gives bits entries
    ≡ assigned (λ (c : CellBit). c.cell) (λ (c : CellBit). c.bit) bits (filter_map gives entries)
set_by_is gives bits [] = refl
set_by_is gives bits (e ∷ entries) = by_head (gives e) (λ done. set_by_is gives done entries)
  where
    by_head : (o : Option CellBit)
        → ((done : List Bool)
        → set_by gives done entries
        ≡ assigned (λ (c : CellBit). c.cell) (λ (c : CellBit). c.bit) done
        (filter_map gives entries)) →
        set_by gives (set_some bits o) entries
        ≡ assigned (λ (c : CellBit). c.cell) (λ (c : CellBit). c.bit) bits
        (cons_option o (filter_map gives entries))
    by_head None rest = rest bits
    by_head (Some c) rest = rest (set bits c.cell c.bit)

-- some entry gives a bit for the cell
record Gives (gives : Cell → Option CellBit) (entries : List Cell) (cell : ℕ) : Type 0 where
  index : ℕ
  entry : Cell
  stands : slice_get entries index ≡ Some entry
  value : CellBit
  is_value : gives entry ≡ Some value
  cell_is : value.cell ≡ cell

-- If each entry sets a correct bit, and the entries cover each bit that differs, one walk makes all bits correct.
walk_is : (gives : Cell → Option CellBit) (entries : List Cell) (n : ℕ) (g h : ℕ → Bool) →
    ((i : ℕ) (e : Cell) (c : CellBit) → slice_get entries i ≡ Some e → gives e ≡ Some c → (c.cell < n) × (h c.cell ≡ c.bit)) →
    ((cell : ℕ) → cell < n → (g cell ≡ h cell) ⊎ Gives gives entries cell) → set_by gives (filled n g) entries ≡ filled n h
walk_is gives entries n g h right cover =
    set_by_is gives (filled n g) entries
    ∙ assigned_is (λ (c : CellBit). c.cell) (λ (c : CellBit). c.bit) (filter_map gives entries)
    (filled n g) (filled n h) (length-filled n g ∙ sym (length-filled n h)) sets
    (λ i less. let below : i < n = omega (arith, less, length-filled n h) in covered i below (cover i below))
  where
    filled_bit : (f : ℕ → Bool) (c : ℕ) → c < n → get_or (filled n f) c false ≡ f c
    filled_bit f c less = get_or_from_slice_get (filled n f) c (f c) false (filled_at n f c less)

    sets : (c : CellBit) → Has (filter_map gives entries) c → (c.cell < length (filled n h)) × (get_or (filled n h) c.cell false ≡ c.bit)
    sets c has =
        let m = filter_map_has gives entries c has in
        let p = has_place entries m.0 m.1 in
        let r = right p.0 m.0 c p.1 m.2 in
        (omega (arith, r.0, length-filled n h), filled_bit h c.cell r.0 ∙ r.1)

    covered : (i : ℕ) → i < n → (g i ≡ h i) ⊎ Gives gives entries i
        → (get_or (filled n g) i false ≡ get_or (filled n h) i false)
        ⊎ ((c : CellBit) × Has (filter_map gives entries) c × (c.cell ≡ i))
    covered i below (inl same) = inl (filled_bit g i below ∙ same ∙ sym (filled_bit h i below))
    covered i below (inr s) =
        inr (
          s.value,
          has_filter_map gives entries s.entry s.value (has_at entries s.index s.entry s.stands)
              s.is_value,
          s.cell_is,
        )

-- `c` has the cell and the safe value of entry `e`, whose function is one of `roles`
record Safe (roles : Role → Bool) (e : Cell) (c : CellBit) : Type 0 where
  role : roles e.role ≡ true
  cell_is : c.cell ≡ e.num
  bit_is : c.bit ≡ bit_of e.safe

safe_is : (roles : Role → Bool) (e : Cell) (c : CellBit) → safe_value_in roles e ≡ Some c → Safe roles e c
safe_is roles e c k = by_role (roles e.role) refl k
  where
    value : CellBit
    value = record { cell = e.num; bit = bit_of e.safe }

    by_role : (t : Bool) → roles e.role ≡ t → cond t (Some value) None ≡ Some c → Safe roles e c
    by_role true r k =
        let same : value ≡ c = cc k in
        record {
          role = r;
          cell_is = ap (λ (x : CellBit). x.cell) (sym same);
          bit_is = ap
              (λ (x : CellBit). x.bit) (sym same);
        }
    by_role false r k = cc k

-- a cell has at most one entry whose function is one of `roles`
abbrev HasOne : (Role → Bool) → RawDevice → Type 0
HasOne roles device =
    (i j : ℕ) (e d : Cell) → slice_get device.cells i ≡ Some e → roles e.role ≡ true
    → slice_get device.cells j ≡ Some d → roles d.role ≡ true → d.num ≡ e.num → d ≡ e

one_writing : (device : RawDevice) → OneOf is_writing device → HasOne is_writing device
one_writing device one i j e d ei re dj rd num =
    let same : i ≡ j = one i j e d ei dj re rd (sym num) in
    let there : Some d ≡ Some e = sym dj ∙ ap (λ (k : ℕ). slice_get device.cells k) (sym same) ∙ ei in
    cc there

entry_is : (roles : Role → Bool) (device : RawDevice) → HasOne roles device → (i : ℕ) (e : Cell) →
    slice_get device.cells i ≡ Some e → roles e.role ≡ true → entry_of roles device e.num ≡ Some e
entry_is roles device one i e stands role =
    let test : Cell → Bool = λ x. (x.num == e.num) && roles x.role in
    let here : test e ≡ true = ap (λ (b : Bool). b && roles e.role) (eq-eqb e.num e.num refl) ∙ role in
    let y = find_some test device.cells i e stands here in
    let f = found test device.cells y.0 y.1 in
    let p = and_parts (y.0.num == e.num) (roles y.0.role) f.0 in
    y.1 ∙ ap (λ (x : Cell). Some x) (one i f.1.0 e y.0 stands role f.1.1 p.1 (eqb-true y.0.num e.num p.0))

-- Let `h` have the safe value of each cell with an entry whose function is in `roles`, and the bit of `g` for each other cell. One walk
-- over these entries turns the bits of `g` into the bits of `h`.
safe_walk : (roles : Role → Bool) (device : RawDevice) → IsDevice device → HasOne roles device → (g h : ℕ → Bool) →
    ((cell : ℕ) (e : Cell) → entry_of roles device cell ≡ Some e → h cell ≡ bit_of e.safe)
    → ((cell : ℕ) → entry_of roles device cell ≡ None → g cell ≡ h cell) →
    set_by (safe_value_in roles) (filled device.boundary g) device.cells ≡ filled device.boundary h
safe_walk roles device is one g h right rest =
    walk_is (safe_value_in roles) device.cells device.boundary g h sets
    (λ cell less. cover cell (entry_of roles device cell) refl)
  where
    sets : (i : ℕ) (e : Cell) (c : CellBit) → slice_get device.cells i ≡ Some e
        → safe_value_in roles e ≡ Some c → (c.cell < device.boundary) × (h c.cell ≡ c.bit)
    sets i e c stands k =
        let s = safe_is roles e c k in
        let below : e.num
        < device.boundary = all_stands (λ (entry : Cell). entry.num < device.boundary)
        device.cells i e stands is.cells_below in
        (omega (arith, below, s.cell_is), ap h s.cell_is ∙ right e.num e (entry_is roles device one i e stands s.role) ∙ sym s.bit_is)

    cover : (cell : ℕ) (o : Option Cell) → entry_of roles device cell ≡ o
        → (g cell ≡ h cell) ⊎ Gives (safe_value_in roles) device.cells cell
    cover cell None k = inl (rest cell k)
    cover cell (Some e) k =
        let f = found (λ x. (x.num == cell) && roles x.role) device.cells e k in
        let p = and_parts (e.num == cell) (roles e.role) f.0 in
        let value : CellBit = record { cell = e.num; bit = bit_of e.safe } in
        inr
        (record {
          index = f.1.0;
          entry = e;
          stands = f.1.1;
          value = value;
          is_value = ap
              (λ (b : Bool). cond b (Some value) None) p.1;
          cell_is = eqb-true e.num cell p.0;
        })

-- The safe value of a cell's reading entry, or 0 if the cell has no such entry. Unlike `safe_value`, this definition ignores an entry for
-- the update latch.
abbrev read_value : RawDevice → ℕ → Bool
read_value device cell = unwrap_or (option_map (λ (e : Cell). bit_of e.safe) (reading_entry device cell)) false

abbrev safe_value : RawDevice → ℕ → Bool
safe_value device cell =
    unwrap_or
    (option_map (λ (e : Cell). bit_of e.safe)
    (or_entry (writing_entry device cell) (reading_entry device cell))) false

symbol_bit : (s : Symbol) → unwrap_or (symbol_value s) false ≡ bit_of s
symbol_bit Zero = refl
symbol_bit One = refl
symbol_bit Any = refl

safe_same : (o : Option Cell)
    → unwrap_or (option_and_then symbol_value (option_map (λ (e : Cell). e.safe) o)) false
    ≡ unwrap_or (option_map (λ (e : Cell). bit_of e.safe) o) false
safe_same None = refl
safe_same (Some e) = symbol_bit e.safe

zeros_filled : (n : ℕ) → replicate n false ≡ filled n (λ c. false)
zeros_filled zero = refl
zeros_filled (suc n) = ap (λ (l : List Bool). false ∷ l) (zeros_filled n)

reading_walk : (device : RawDevice) → IsDevice device
    → set_by (safe_value_in is_reading) (replicate device.boundary false) device.cells
    ≡ filled device.boundary (read_value device)
reading_walk device is =
    ap (λ (l : List Bool). set_by (safe_value_in is_reading) l device.cells) (zeros_filled device.boundary)
    ∙ safe_walk is_reading device is (read device is).one_reader (λ c. false) (read_value device)
    (λ cell e k. ap (λ (o : Option Cell). unwrap_or (option_map (λ (x : Cell). bit_of x.safe) o) false) k)
    (λ cell k. sym (ap (λ (o : Option Cell). unwrap_or (option_map (λ (x : Cell). bit_of x.safe) o) false) k))

writing_walk : (device : RawDevice) → IsDevice device
    → set_by (safe_value_in is_writing) (filled device.boundary (read_value device)) device.cells
    ≡ filled device.boundary (safe_value device)
writing_walk device is =
    safe_walk is_writing device is (one_writing device is.one_writing) (read_value device) (safe_value device)
    (λ cell e k. ap
    (λ (o : Option Cell). unwrap_or
    (option_map (λ (x : Cell). bit_of x.safe) (or_entry o (reading_entry device cell)))
    false) k)
    (λ cell k. sym
    (ap
    (λ (o : Option Cell). unwrap_or
    (option_map (λ (x : Cell). bit_of x.safe) (or_entry o (reading_entry device cell)))
    false) k))

-- `c` has the control cell and the disable value of the entry `e` of a driver
record Disables (board : RawBoard) (part : ℕ) (e : Cell) (c : CellBit) : Type 0 where
  driver : is_driver board part e ≡ true
  control : Control
  is_control : e.ctl ≡ Some control
  cell_is : c.cell ≡ control.cell
  bit_is : c.bit ≡ control.disable

abbrev control_bit : Control → CellBit
control_bit control = record { cell = control.cell; bit = control.disable }

disables : (board : RawBoard) (part : ℕ) (e : Cell) (c : CellBit) → disable_value_in board part e ≡ Some c → Disables board part e c
disables board part e c k = by_driver (is_driver board part e) refl e.ctl refl k
  where
    by_driver : (t : Bool) → is_driver board part e ≡ t → (o : Option Control) → e.ctl ≡ o
        → cond t (option_map control_bit o) None ≡ Some c → Disables board part e c
    by_driver true d (Some control) o k =
        let same : control_bit control ≡ c = cc k in
        record {
          driver = d;
          control = control;
          is_control = o;
          cell_is = ap (λ (x : CellBit). x.cell)
              (sym same);
          bit_is = ap (λ (x : CellBit). x.bit) (sym same);
        }
    by_driver true d None o k = cc k
    by_driver false d o is k = cc k

module _ (board : RawBoard) (part : ℕ) (device : RawDevice) (is : IsDevice device) where
  device_wired : IsWired device
  device_wired = wired device is

  controlled : (i : ℕ) (e : Cell) (control : Control) → slice_get device.cells i ≡ Some e
      → is_driver board part e ≡ true → e.ctl ≡ Some control →
      list_any (controls_driver board part control.cell) device.cells ≡ true
  controlled i e control stands driver ctl =
      let p = and_parts (is_driving e.role)
      (unwrap_or (option_map (λ bit. is_pinned board (record { part = part; bit = bit })) e.bit)
      false) driver in
      any_at (controls_driver board part control.cell) device.cells i e stands
      (ap
      (λ (o : Option Control). is_control_of control.cell o && is_driving e.role && unwrap_or
      (option_map (λ bit. is_pinned board (record { part = part; bit = bit })) e.bit) false) ctl
      ∙ ap
      (λ (b : Bool). b && is_driving e.role
      && unwrap_or
      (option_map (λ bit. is_pinned board (record { part = part; bit = bit })) e.bit)
      false) (eq-eqb control.cell control.cell refl)
      ∙ ap (λ (b : Bool). b && unwrap_or (option_map (λ bit. is_pinned board (record { part = part; bit = bit })) e.bit) false) p.0
      ∙ p.1)

  sets : (i : ℕ) (e : Cell) (c : CellBit) → slice_get device.cells i ≡ Some e
      → disable_value_in board part e ≡ Some c
      → (c.cell < device.boundary) × (quiet_bits board part device c.cell ≡ c.bit)
  sets i e c stands k =
      let d = disables board part e c k in
      let below : d.control.cell < device.boundary = device_wired.below i e d.control stands d.is_control in (
        omega (arith, below, d.cell_is),
        ap (quiet_bits board part device) d.cell_is
            ∙ ap
            (λ (b : Bool). cond b (unwrap_or (disable_of device d.control.cell) false)
            (unwrap_or (safe_bit device d.control.cell) false))
            (controlled i e d.control stands d.driver d.is_control)
            ∙ ap (λ (o : Option Bool). unwrap_or o false) (device_wired.one_disable i e d.control stands d.is_control)
            ∙ sym d.bit_is,
      )

  cover : (cell : ℕ) → (t : Bool) → list_any (controls_driver board part cell) device.cells ≡ t
      → (safe_value device cell ≡ quiet_bits board part device cell)
      ⊎ Gives (disable_value_in board part) device.cells cell
  cover cell false t =
      inl (sym (ap (λ (b : Bool). cond b (unwrap_or (disable_of device cell) false) (unwrap_or (safe_bit device cell) false)) t
      ∙ safe_same (or_entry (writing_entry device cell) (reading_entry device cell))))
  cover cell true t =
      let x = any_is (controls_driver board part cell) device.cells t in
      let p = and_parts (is_control_of cell x.1.ctl && is_driving x.1.role)
      (unwrap_or
      (option_map (λ bit. is_pinned board (record { part = part; bit = bit })) x.1.bit)
      false) x.3 in
      let q = and_parts (is_control_of cell x.1.ctl) (is_driving x.1.role) p.0 in
      let k = control_is cell x.1.ctl q.0 in
      let driver : is_driver board part x.1
      ≡ true = ap
      (λ (b : Bool). b
      && unwrap_or
      (option_map (λ bit. is_pinned board (record { part = part; bit = bit })) x.1.bit)
      false) q.1 ∙ p.1 in
      inr (record {
        index = x.0;
        entry = x.1;
        stands = x.2;
        value = control_bit k.0;
        is_value = ap (λ (b : Bool). cond b (option_map control_bit x.1.ctl) None) driver ∙ ap (option_map control_bit) k.1;
        cell_is = k.2;
      })

  disabled_walk : set_by (disable_value_in board part) (filled device.boundary (safe_value device))
      device.cells ≡ filled device.boundary (λ cell. quiet_bits board part device cell)
  disabled_walk =
      walk_is (disable_value_in board part) device.cells device.boundary (safe_value device)
      (quiet_bits board part device) sets
      (λ cell less. cover cell (list_any (controls_driver board part cell) device.cells) refl)

  pub quiet_is : quiet_values board part device ≡ filled device.boundary (λ cell. quiet_bits board part device cell)
  quiet_is =
      ap
      (λ (l : List Bool). set_by (disable_value_in board part)
      (set_by (safe_value_in is_writing) l device.cells) device.cells) (reading_walk device is)
      ∙ ap (λ (l : List Bool). set_by (disable_value_in board part) l device.cells) (writing_walk device is)
      ∙ disabled_walk
