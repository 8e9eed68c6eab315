-- The port bits of boundary entries: which entries are on a bit, which drive one, and the modes of
-- their ports.
use Rattle.std.proofs.Common.{◌≡◌, ℕ, ◌<◌, Bool, true, false, not, ◌&&◌, List, map, length, take, Option, Some, None, refl, sym, ◌∙◌, ap, subst, ◌⊎◌, inl, inr}
use Rattle.std.specs.Prelude.{slice_get, All, is_none, if◌then◌else◌}
use Rattle.std.specs.Str.{bytes_eq}
use Rattle.std.proofs.lemmas.Bool.{or_parts, and_parts, not-false, eq-eqb, cases_order}
use Rattle.std.proofs.lemmas.List.{length-map}
use Rattle.std.proofs.lemmas.List.Elements.{All-map}
use Rattle.std.proofs.lemmas.Option.{slice_get_within}
use Rattle.lists.proofs.Booleans.{clash}
use Rattle.board_defs.specs.declared.device.Role.{Role}
use Rattle.board_defs.specs.declared.device.Cell.{Cell}
use Rattle.board_defs.specs.declared.device.PortBit.{PortBit}
use Rattle.board_defs.specs.DeviceRules.{is_inner, is_driving, may_drive, is_on, drives_bit, HasPlace, OneDriver, EntriesFitPorts}
use Rattle.board_defs.proofs.Members.{Has, has_at, has_place, all_from_has}
use Rattle.board_defs.proofs.CellLemmas.{on_is}
use Rattle.bsdl_parser.specs.declared.entity.Port.{Port}
use Rattle.bsdl_strings.specs.declared.values.Entry.{Entry}
use Rattle.bsdl_strings.specs.declared.values.PortWord.{PortWord}
use Rattle.bsdl_strings.specs.declared.values.PortWord.TheVariants.{Star, Plain, Index}
use Rattle.device_rules.specs.declared.draft.Draft.{Draft}
use Rattle.device_rules.specs.declared.draft.TapPorts.{TapPorts}
use Rattle.device_rules.specs.Ports.{Bit, all_port_bits, has_index, is_named, bit_number, named_port}
use Rattle.device_rules.specs.Taps.{is_named_among, tap_names}
use Rattle.device_rules.specs.Places.{is_star, breaks_place, v9, driven_bit_number, is_driven, breaks_driver, v13, misfits, breaks_mode, v14}
use Rattle.device_rules.specs.Raw.{cell_of, port_bit, raw_cells, raw_bits, raw_device}
use Rattle.device_rules.proofs.RuleLemmas.{holds}
use Rattle.device_rules.proofs.IsDeviceLists.{same_name, earlier, holds_at, none_has, Made, made_at, Found, found_at, never_found}
use Rattle.device_rules.proofs.IsDevicePorts.{PortsStand, IsBitOf, is_bit_of}
use Rattle.device_rules.proofs.IsDevicePins.{port_is}

star_is : (word : PortWord) → is_star word ≡ true → word ≡ Star
star_is Star e = refl
star_is (Plain name) e = cc e
star_is (Index name index) e = cc e

no_place : (ports : List Port) (word : PortWord) → is_star word ≡ true → bit_number ports word ≡ None
no_place ports word e = ap (bit_number ports) (star_is word e) ∙ never_found 0 (all_port_bits ports)

place_of : (ports : List Port) (entry : Entry) → breaks_place ports entry ≡ false
    → HasPlace (length (all_port_bits ports)) entry.role (bit_number ports entry.port)
place_of ports entry e = by_inner (is_inner entry.role) (bit_number ports entry.port) refl refl e
  where
    by_inner : (b : Bool) (o : Option ℕ) → is_inner entry.role ≡ b → bit_number ports entry.port ≡ o
        → (if b then not (is_star entry.port) else is_none o) ≡ false
        → HasPlace (length (all_port_bits ports)) entry.role o
    by_inner true None inner place kept = inner
    by_inner true (Some bit) inner place kept =
        let none : ◌≡◌ {A = Option ℕ} (Some bit) None = sym place
        ∙ no_place ports entry.port (not-false (is_star entry.port) kept) in
        cc none
    by_inner false None inner place kept = cc kept
    by_inner false (Some bit) inner place kept =
        let r : Found (is_named entry.port) (all_port_bits ports) bit = found_at (is_named entry.port) (all_port_bits ports) bit place in
        (inner, slice_get_within (all_port_bits ports) bit r.item r.at)

place_kept : (ports : List Port) (entries : List Entry) → v9 ports entries ≡ None → (entry : Entry)
    → Has entries entry → breaks_place ports entry ≡ false
unfolding v9
place_kept ports entries e entry has =
    let r = has_place entries entry has in
    holds_at (λ before entry. breaks_place ports entry) entries (holds (λ before entry. breaks_place ports entry) entries e) r.0 entry r.1

pub places : (draft : Draft) → v9 draft.ports draft.entries ≡ None
    → All (λ entry. HasPlace (length (raw_device draft).bits) entry.role entry.bit)
    (raw_device draft).cells
unfolding raw_cells raw_bits
places draft e =
    let made = port_bit draft.map draft.taps draft.compliance in
    let many : length (map made (all_port_bits draft.ports))
    ≡ length (all_port_bits draft.ports) = length-map (all_port_bits draft.ports) made in
    All-map
    (λ (cell : Cell). HasPlace (length (map made (all_port_bits draft.ports))) cell.role
    cell.bit) (cell_of draft.ports) draft.entries
    (all_from_has
    (λ (entry : Entry). HasPlace (length (map made (all_port_bits draft.ports))) entry.role
    (bit_number draft.ports entry.port)) draft.entries (λ entry has.
    subst (λ n. HasPlace n entry.role (bit_number draft.ports entry.port)) (sym many)
    (place_of draft.ports entry (place_kept draft.ports draft.entries e entry has))))

driven : (ports : List Port) (bit : ℕ) (entry : Entry) → drives_bit bit (cell_of ports entry) ≡ true
    → driven_bit_number ports entry ≡ Some bit
driven ports bit entry e =
    let parts = and_parts (is_on bit (bit_number ports entry.port)) (is_driving entry.role) e in
    ap (λ b. if b then bit_number ports entry.port else None) parts.1 ∙ on_is bit (bit_number ports entry.port) parts.0

driver_kept : (ports : List Port) (entries : List Entry) → v13 ports entries ≡ None
    → (j : ℕ) (entry : Entry) → slice_get entries j ≡ Some entry
    → breaks_driver ports (take j entries) entry ≡ false
unfolding v13
driver_kept ports entries e j entry at = holds_at (breaks_driver ports) entries (holds (breaks_driver ports) entries e) j entry at

driven_before : (ports : List Port) (entries : List Entry) → v13 ports entries ≡ None
    → (bit i j : ℕ) (x y : Entry) → i < j → slice_get entries i ≡ Some x
    → slice_get entries j ≡ Some y → driven_bit_number ports x ≡ Some bit
    → driven_bit_number ports y ≡ Some bit → ⊥
driven_before ports entries e bit i j x y less at_i at_j drives_x drives_y =
    let kept : is_driven ports (take j entries) (Some bit)
    ≡ false = ap (is_driven ports (take j entries)) (sym drives_y)
    ∙ driver_kept ports entries e j y at_j in
    let other : is_on bit (driven_bit_number ports x)
    ≡ false = none_has (λ (entry : Entry). is_on bit (driven_bit_number ports entry))
    (take j entries) x kept (earlier entries i j x less at_i) in
    clash (is_on bit (driven_bit_number ports x)) (ap (is_on bit) drives_x ∙ eq-eqb bit bit refl) other

pub one_driver : (draft : Draft) → v13 draft.ports draft.entries ≡ None → OneDriver (raw_device draft)
unfolding raw_cells
one_driver draft none i j bit e d at_i at_j drives_e drives_d =
    let x : Made (cell_of draft.ports) draft.entries i e = made_at (cell_of draft.ports) draft.entries i e at_i in
    let y : Made (cell_of draft.ports) draft.entries j d = made_at (cell_of draft.ports) draft.entries j d at_j in
    let drives_x = driven draft.ports bit x.from (ap (drives_bit bit) x.gives ∙ drives_e) in
    let drives_y = driven draft.ports bit y.from (ap (drives_bit bit) y.gives ∙ drives_d) in
    by_order x.from y.from x.at y.at drives_x drives_y (cases_order i j)
  where
    by_order : (x y : Entry) → slice_get draft.entries i ≡ Some x
        → slice_get draft.entries j ≡ Some y → driven_bit_number draft.ports x ≡ Some bit
        → driven_bit_number draft.ports y ≡ Some bit → (i ≡ j) ⊎ ((i < j) ⊎ (j < i)) → i ≡ j
    by_order x y at_x at_y drives_x drives_y (inl same) = same
    by_order x y at_x at_y drives_x drives_y (inr (inl less)) =
        absurd
        (driven_before draft.ports draft.entries none bit i j x y less at_x at_y drives_x drives_y)
    by_order x y at_x at_y drives_x drives_y (inr (inr less)) =
        absurd
        (driven_before draft.ports draft.entries none bit j i y x less at_y at_x drives_y drives_x)

named_is : (ports : List Port) → PortsStand ports
    → (bit : Bit) (of : IsBitOf ports 0 bit) (word : PortWord) → is_named word bit ≡ true
    → named_port ports word ≡ Some of.port
named_is ports stand bit of Star e = cc e
named_is ports stand bit of (Plain name) e =
    port_is ports stand.once name of.port (has_at ports of.number of.port of.at)
    (sym of.named
    ∙ same_name bit.name name
    (and_parts (bytes_eq bit.name name) (has_index None bit.index) e).0)
named_is ports stand bit of (Index name index) e =
    port_is ports stand.once name of.port (has_at ports of.number of.port of.at)
    (sym of.named
    ∙ same_name bit.name name
    (and_parts (bytes_eq bit.name name) (has_index (Some index) bit.index) e).0)

mode_kept : (ports : List Port) (taps : TapPorts) (entries : List Entry)
    → v14 ports taps entries ≡ None → (entry : Entry) → Has entries entry
    → breaks_mode ports taps entry ≡ false
unfolding v14
mode_kept ports taps entries e entry has =
    let r = has_place entries entry has in
    holds_at (λ before entry. breaks_mode ports taps entry) entries
    (holds (λ before entry. breaks_mode ports taps entry) entries e) r.0 entry r.1

-- an entry with this function may be on the port bit: the bit is not on a TAP port, and if the
-- function drives, the mode of the bit allows driving
record Fits (taps : TapPorts) (role : Role) (bit : Bit) : Type 0 where
  no_tap : is_named_among (tap_names taps) bit.name ≡ false
  driven : is_driving role ≡ true → may_drive bit.mode ≡ true

implied : (a b : Bool) → (a && not b) ≡ false → a ≡ true → b ≡ true
implied true true e t = refl
implied true false e t = cc e
implied false b e t = cc t

fits : (ports : List Port) → PortsStand ports → (taps : TapPorts) (entries : List Entry)
    → v14 ports taps entries ≡ None → (entry : Entry) → Has entries entry → (bit : Bit)
    → Has (all_port_bits ports) bit → is_named entry.port bit ≡ true → Fits taps entry.role bit
fits ports stand taps entries e entry has bit has_bit named =
    let of : IsBitOf ports 0 bit = is_bit_of 0 ports bit has_bit in
    let kept : misfits taps entry.role (Some of.port)
    ≡ false = ap (misfits taps entry.role) (sym (named_is ports stand bit of entry.port named))
    ∙ mode_kept ports taps entries e entry has in
    let parts = or_parts (is_named_among (tap_names taps) of.port.name) (is_driving entry.role && not (may_drive of.port.mode)) kept in
    record {
      no_tap = ap (is_named_among (tap_names taps)) of.named ∙ parts.0;
      driven = λ drives. ap may_drive of.of_mode ∙ implied (is_driving entry.role) (may_drive of.port.mode) parts.1 drives;
    }

pub fits_ports : (draft : Draft) → PortsStand draft.ports
    → v14 draft.ports draft.taps draft.entries ≡ None → EntriesFitPorts (raw_device draft)
unfolding raw_cells raw_bits
fits_ports draft stand none i b e bit at_i on at_b =
    let made = port_bit draft.map draft.taps draft.compliance in
    let x : Made (cell_of draft.ports) draft.entries i e = made_at (cell_of draft.ports) draft.entries i e at_i in
    let y : Made made (all_port_bits draft.ports) b bit = made_at made (all_port_bits draft.ports) b bit at_b in
    let number : bit_number draft.ports x.from.port ≡ Some b = ap (λ (c : Cell). c.bit) x.gives ∙ on in
    let z : Found (is_named x.from.port) (all_port_bits draft.ports) b = found_at
    (is_named x.from.port) (all_port_bits draft.ports) b number in
    let some : ◌≡◌ {A = Option Bit} (Some z.item) (Some y.from) = sym z.at ∙ y.at in
    let one : z.item ≡ y.from = cc some in
    let r : Fits draft.taps x.from.role y.from = fits draft.ports stand draft.taps draft.entries
    none x.from (has_at draft.entries i x.from x.at) y.from
    (has_at (all_port_bits draft.ports) b y.from y.at)
    (ap (is_named x.from.port) (sym one) ∙ z.passes) in (
      sym (ap (λ (v : PortBit). v.tap) y.gives) ∙ r.no_tap,
      λ drives. ap (λ (v : PortBit). may_drive v.mode) (sym y.gives) ∙ r.driven (ap (λ (c : Cell). is_driving c.role) x.gives ∙ drives),
    )
