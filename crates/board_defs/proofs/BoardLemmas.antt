-- Consequences of the rules of boards: facts about the places of pins in the chain, bounds on lengths, and facts about the entries and
-- controls of devices in the chain.
use Rattle.std.proofs.Common.{◌≡◌, ℕ, suc, ◌*◌, ◌^◌, ◌<◌, ◌≤◌, ◌==◌, Bool, true, false, List, [], ◌∷◌, length, Option, Some, None, refl, sym, ◌∙◌, ap, subst, arith, cond}
use Rattle.std.specs.Prelude.{slice_get, sum_by, All, IfSome, is_some, find, option_map, option_and_then, if◌then◌else◌}
use Rattle.std.proofs.lemmas.Option.{same_Some}
use Rattle.std.proofs.lemmas.List.Elements.{All-head, All-tail}
use Rattle.std.proofs.lemmas.List.Sums.{sum_by-cons}
use Rattle.board_defs.specs.declared.device.Control.{Control}
use Rattle.board_defs.specs.declared.device.Cell.{Cell}
use Rattle.board_defs.specs.declared.device.RawDevice.{RawDevice}
use Rattle.board_defs.specs.declared.device.PortBit.{PortBit}
use Rattle.board_defs.specs.declared.board.PartKind.{PartKind}
use Rattle.board_defs.specs.declared.board.PartKind.TheVariants.{Described, Bypass}
use Rattle.board_defs.specs.declared.board.Part.{Part}
use Rattle.board_defs.specs.declared.board.PinAt.{PinAt}
use Rattle.board_defs.specs.declared.board.NetPin.{NetPin}
use Rattle.board_defs.specs.declared.board.Net.{Net}
use Rattle.board_defs.specs.declared.board.RawBoard.{RawBoard}
use Rattle.board_defs.specs.declared.board.Ctl.{Ctl}
use Rattle.board_defs.specs.declared.board.Drive.TheVariants.{OneSided, By}
use Rattle.board_defs.specs.DeviceRules.{driving_entry, drives_bit, IsDevice}
use Rattle.board_defs.specs.Pins.{described, instruction_length, instruction_bits, device_at, cell_count, IsCell, entry_at, bit_at, is_pinned, lets_switch, drive_by, drive_where, drive}
use Rattle.board_defs.specs.BoardRules.{IsPart, Stands, IsPlaced, IsPlacedAt, IsBoard}
use Rattle.board_defs.proofs.Places.{all_stands}

pub placed_at : (board : RawBoard) (n : ℕ) (net : Net) (i : ℕ) (pin : NetPin) (at : PinAt)
    → IsBoard board → Stands board n net i pin → pin.at ≡ Some at → IsPlacedAt board pin at
placed_at board n net i pin at rules st e =
    let there : IsPlaced board pin pin.at = all_stands (λ (p : NetPin). IsPlaced board p p.at)
    net.pins i pin st.in_net
    (all_stands (λ (v : Net). All (λ p. IsPlaced board p p.at) v.pins) board.nets n net
    st.on_board rules.placed) in
    let P : Option PinAt → Type 0 = λ w. IsPlaced board pin w in
    subst P e there

same_pin : (board : RawBoard) (p q : NetPin) (at : PinAt) → IsPlacedAt board p at
    → IsPlacedAt board q at → (p.part ≡ q.part) × (p.pin ≡ q.pin)
same_pin board p q at a b =
    let part : a.part ≡ b.part = same_Some a.part b.part (sym a.in_chain ∙ b.in_chain) in
    let device : a.device
    ≡ b.device = same_Some a.device b.device
    (sym a.is_described ∙ ap (λ (v : Part). described v.kind) part ∙ b.is_described) in
    let bit : a.bit
    ≡ b.bit = same_Some a.bit b.bit
    (sym a.in_device ∙ ap (λ (v : RawDevice). slice_get v.bits at.bit) device ∙ b.in_device)
    in (
      sym a.named ∙ ap (λ (v : Part). v.name) part ∙ b.named,
      same_Some p.pin q.pin (sym a.has_pin ∙ ap (λ (v : PortBit). v.pin) bit ∙ b.has_pin),
    )

-- no two different pins of the nets have the same place in the chain
pub pins_once : (board : RawBoard) → IsBoard board
    → (n m : ℕ) (net other : Net) (i j : ℕ) (p q : NetPin) (at : PinAt)
    → slice_get board.nets n ≡ Some net → slice_get board.nets m ≡ Some other
    → slice_get net.pins i ≡ Some p → slice_get other.pins j ≡ Some q → p.at ≡ Some at
    → q.at ≡ Some at → (n ≡ m) × (i ≡ j)
pins_once board rules n m net other i j p q at en em ei ej pa qa =
    let s : Stands board n net i p = record { on_board = en; in_net = ei } in
    let t : Stands board m other j q = record { on_board = em; in_net = ej } in
    let same : (p.part ≡ q.part)
    × (p.pin ≡ q.pin) = same_pin board p q at (placed_at board n net i p at rules s pa)
    (placed_at board m other j q at rules t qa) in
    rules.pins_differ n m i j net other p q s t same.0 same.1

-- if a pin of a net has a place in the chain, the chosen pin map assigns a pin to the port bit at that place
pub pins_stand : (board : RawBoard) → IsBoard board
    → (n : ℕ) (net : Net) (i : ℕ) (p : NetPin) (at : PinAt) → slice_get board.nets n ≡ Some net
    → slice_get net.pins i ≡ Some p → p.at ≡ Some at → is_pinned board at ≡ true
pins_stand board rules n net i p at en ei pa =
    let w : IsPlacedAt board p at = placed_at board n net i p at rules (record { on_board = en; in_net = ei }) pa in
    let device : device_at board at.part
    ≡ Some w.device = ap (option_and_then (λ (v : Part). described v.kind)) w.in_chain
    ∙ w.is_described in
    let bit : bit_at board at ≡ Some w.bit = ap (option_and_then (λ (v : RawDevice). slice_get v.bits at.bit)) device ∙ w.in_device in
    ap is_some (ap (option_and_then (λ (v : PortBit). v.pin)) bit ∙ w.has_pin)

part_length : (kind : PartKind) → IsPart kind → instruction_length kind ≤ 255
part_length (Described device) h = h.ir_most
part_length (Bypass n) h = h.1

pub chain_length : (chain : List Part) → All (λ part. IsPart part.kind) chain
    → sum_by (λ part. instruction_length part.kind) chain ≤ 255 * length chain
chain_length [] all = omega arith
chain_length (part ∷ chain) all =
    let head : instruction_length part.kind ≤ 255 = part_length part.kind (All-head (λ (v : Part). IsPart v.kind) part chain all) in
    let rest : sum_by (λ (v : Part). instruction_length v.kind) chain
    ≤ 255 * length chain = chain_length chain
    (All-tail (λ (v : Part). IsPart v.kind) part chain all) in
    omega (arith, sum_by-cons (λ (v : Part). instruction_length v.kind) part chain, head, rest)

pub instruction_bits_fit : (board : RawBoard) (chain : List Part) → IsBoard board
    → chain ≡ board.chain → sum_by (λ part. instruction_length part.kind) chain < 2 ^ 32
instruction_bits_fit board chain rules e =
    let P : List Part → Type 0 = λ v. sum_by (λ part. instruction_length part.kind) v < 2 ^ 32 in
    let most : instruction_bits board ≤ 255 * length board.chain = chain_length board.chain rules.parts in
    let few : length board.chain ≤ 255 = rules.chain_most in
    subst P (sym e) (omega (arith, most, few))

pub device_rules : (board : RawBoard) (k : ℕ) (device : RawDevice) → IsBoard board → device_at board k ≡ Some device → IsDevice device
device_rules board k device rules e = by_part (slice_get board.chain k) refl e
  where
    by_kind : (kind : PartKind) → IsPart kind → described kind ≡ Some device → IsDevice device
    by_kind (Described d) h f = let P : RawDevice → Type 0 = λ v. IsDevice v in subst P (same_Some d device f) h
    by_kind (Bypass n) h f = cc f

    by_part : (w : Option Part) → slice_get board.chain k ≡ w
        → option_and_then (λ (p : Part). described p.kind) w ≡ Some device → IsDevice device
    by_part None p f = cc f
    by_part (Some part) p f = by_kind part.kind (all_stands (λ (v : Part). IsPart v.kind) board.chain k part p rules.parts) f

entry_stands : (device : RawDevice) (bit : ℕ) (cell : Cell) → driving_entry device bit ≡ Some cell
    → (i : ℕ) × (slice_get device.cells i ≡ Some cell)
entry_stands device bit cell e = found device.cells e
  where
    found : (cells : List Cell) → find (drives_bit bit) cells ≡ Some cell → (i : ℕ) × (slice_get cells i ≡ Some cell)
    found [] h = cc h
    found (x ∷ cells) h = by_test (found cells) (drives_bit bit x) h
      where
        by_test :
            (find (drives_bit bit) cells ≡ Some cell → (i : ℕ) × (slice_get cells i ≡ Some cell))
            → (b : Bool) → cond b (Some x) (find (drives_bit bit) cells) ≡ Some cell
            → (i : ℕ) × (slice_get (x ∷ cells) i ≡ Some cell)
        by_test rest true k = (0, k)
        by_test rest false k = let r = rest k in (suc r.0, r.1)

pub control_is_cell : (board : RawBoard) (net : Net) (pin : NetPin) (c : Ctl) → IsBoard board
    → drive board net pin ≡ Some (By c) → IsCell board c
control_is_cell board net pin c rules e = by_place pin.at e
  where
    by_device : (at : PinAt) (w : Option RawDevice) → device_at board at.part ≡ w → (cell : Cell)
        → option_and_then (λ (d : RawDevice). driving_entry d at.bit) w ≡ Some cell
        → (control : Control) → cell.ctl ≡ Some control → control.cell < cell_count w
    by_device at None d cell f control k = cc f
    by_device at (Some device) d cell f control k =
        let stands = entry_stands device at.bit cell f in
        let below : IfSome cell.ctl (λ v. v.cell < device.boundary) = all_stands
        (λ (v : Cell). IfSome v.ctl (λ w. w.cell < device.boundary)) device.cells stands.0 cell
        stands.1 (device_rules board at.part device rules d).controls_below in
        let P : Option Control → Type 0 = λ w. IfSome w (λ v. v.cell < device.boundary) in
        subst P k below

    same_control : (at : PinAt) (control : Control)
        → control.cell < cell_count (device_at board at.part)
        → By (record { part = at.part; cell = control.cell }) ≡ By c → IsCell board c
    same_control at control less f =
        let same : record { part = at.part; cell = control.cell } ≡ c = cc f in
        let P : Ctl → Type 0 = λ v. IsCell board v in
        subst P same less

    by_switch : (at : PinAt) (control : Control) (own lets : Bool) → control.cell < cell_count (device_at board at.part) →
        Some
        (if own
        then (if lets then By (record { part = at.part; cell = control.cell })
        else OneSided) else By (record { part = at.part; cell = control.cell })) ≡ Some (By c)
        → IsCell board c
    by_switch at control true true less f = same_control at control less (cc f)
    by_switch at control true false less f = cc f
    by_switch at control false lets less f = same_control at control less (cc f)

    by_control : (at : PinAt) (cell : Cell) → entry_at board at ≡ Some cell → (w : Option Control)
        → cell.ctl ≡ w → Some (drive_by board net at.part cell w) ≡ Some (By c) → IsCell board c
    by_control at cell f None k g = cc g
    by_control at cell f (Some control) k g =
        by_switch at control (control.cell == cell.num) (lets_switch board net control.disable)
        (by_device at (device_at board at.part) refl cell f control k) g

    by_entry : (at : PinAt) (w : Option Cell) → entry_at board at ≡ w
        → option_map (λ cell. drive_by board net at.part cell cell.ctl) w ≡ Some (By c)
        → IsCell board c
    by_entry at None f g = cc g
    by_entry at (Some cell) f g = by_control at cell f cell.ctl refl g

    by_place : (w : Option PinAt) → drive_where board net w ≡ Some (By c) → IsCell board c
    by_place None g = cc g
    by_place (Some at) g = by_entry at (entry_at board at) refl g
