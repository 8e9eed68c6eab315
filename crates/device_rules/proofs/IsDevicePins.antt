-- The pins of a text whose ports and pin map keep the rules: no two port bits have the same pin,
-- and the map assigns pins to either all bits of a port or none.
use Rattle.std.proofs.Common.{◌≡◌, ℕ, ◌<◌, true, false, not, List, [], ◌∷◌, ◌++◌, map, length, take, Option, Some, None, refl, sym, ◌∙◌, ap, subst, arith, ◌⊎◌, inl, inr}
use Rattle.std.specs.Prelude.{slice_get, find, is_some, option_and_then}
use Rattle.std.specs.List.{list_any}
use Rattle.std.specs.Str.{bytes_eq}
use Rattle.std.proofs.lemmas.Bool.{or_parts, not-false, eqb-true, cases_order}
use Rattle.std.proofs.lemmas.Option.{slice_get_within}
use Rattle.lists.proofs.Booleans.{clash}
use Rattle.board_defs.specs.declared.device.PortBit.{PortBit}
use Rattle.board_defs.proofs.Members.{Has, has_at, has_place, has_left, has_right, has_any, has_flat_map, find_has, find_none}
use Rattle.bsdl_parser.specs.declared.entity.Port.{Port}
use Rattle.bsdl_strings.specs.declared.values.MapEntry.{MapEntry}
use Rattle.bsdl_strings.specs.declared.values.Compliance.{Compliance}
use Rattle.device_rules.specs.declared.draft.TapPorts.{TapPorts}
use Rattle.first_places.specs.Items.{KeepsRule}
use Rattle.device_rules.specs.Ports.{width, port_named, port_of, Bit, indexes, all_port_bits}
use Rattle.device_rules.specs.Taps.{is_named_among}
use Rattle.device_rules.specs.PinMap.{maps_port, has_width, some_repeats, mapped_pins, breaks_map, v4}
use Rattle.device_rules.specs.Raw.{mapped_pin, port_bit}
use Rattle.device_rules.proofs.RuleLemmas.{holds}
use Rattle.device_rules.proofs.IsDeviceLists.{same_name, name_same, earlier, holds_at, Once, once_nil, once_cons, made_at, once_item, there}
use Rattle.device_rules.proofs.RangeLemmas.{length_indexes}
use Rattle.device_rules.proofs.IsDevicePorts.{PortsStand, IsBitOf, is_bit_of, spot, spots_once}

pub port_is : (ports : List Port) → Once (λ port. port.name) ports → (name : List ℕ) (port : Port)
    → Has ports port → port.name ≡ name → port_of ports name ≡ Some port
port_is ports once name port has same = by_found (port_of ports name) refl
  where
    by_found : (o : Option Port) → port_of ports name ≡ o → port_of ports name ≡ Some port
    by_found None e = absurd (clash (port_named name port) (name_same port.name name same) (find_none (port_named name) ports port e has))
    by_found (Some other) e =
        let r = find_has (port_named name) ports other e in
        e ∙ ap Some (once_item (λ p. p.name) ports once other port r.0 has (same_name other.name name r.1 ∙ sym same))

-- an entry of the pin map that keeps V4: no earlier entry names its port, the port has as many bits
-- as the entry has pins, and none of the entry's pins is in an earlier entry or occurs twice in the
-- entry
record KeptEntry (ports : List Port) (before : List MapEntry) (entry : MapEntry) : Type 0 where
  new : list_any (maps_port entry.port) before ≡ false
  wide : has_width (port_of ports entry.port) (length entry.pins) ≡ true
  apart : some_repeats (mapped_pins before) entry.pins ≡ false

kept_entry : (ports : List Port) (before : List MapEntry) (entry : MapEntry)
    → breaks_map ports before entry ≡ false → KeptEntry ports before entry
kept_entry ports before entry e =
    let a = or_parts (list_any (maps_port entry.port) before) _ e in
    let b = or_parts (not (has_width (port_of ports entry.port) (length entry.pins))) (some_repeats (mapped_pins before) entry.pins) a.1 in
    record { new = a.0; wide = not-false (has_width (port_of ports entry.port) (length entry.pins)) b.0; apart = b.1 }

none_seen : (seen pins : List (List ℕ)) (pin : List ℕ) → some_repeats seen pins ≡ false → Has seen pin → Has pins pin → ⊥
none_seen seen [] pin e h k = absurd k
none_seen seen (p ∷ pins) pin e h (inl same) =
    clash (is_named_among seen p) (has_any (bytes_eq p) seen pin h (name_same p pin same))
    (or_parts (is_named_among seen p) (some_repeats (seen ++ p ∷ []) pins) e).0
none_seen seen (p ∷ pins) pin e h (inr k) =
    none_seen (seen ++ p ∷ []) pins pin
    (or_parts (is_named_among seen p) (some_repeats (seen ++ p ∷ []) pins) e).1
    (has_left seen (p ∷ []) pin h) k

abbrev itself : List ℕ → List ℕ
itself pin = pin

pins_once : (seen pins : List (List ℕ)) → some_repeats seen pins ≡ false → Once itself pins
pins_once seen [] e = once_nil itself
pins_once seen (pin ∷ pins) e =
    let rest : some_repeats (seen ++ pin ∷ []) pins
    ≡ false = (or_parts (is_named_among seen pin) (some_repeats (seen ++ pin ∷ []) pins) e).1 in
    once_cons itself pin pins (pins_once (seen ++ pin ∷ []) pins rest)
    (λ p h same. none_seen (seen ++ pin ∷ []) pins p rest
    (has_right seen (pin ∷ []) p (inl same)) h)

-- the entries `e` and `d` are for the same port, and the places `k` and `l` of their pins are equal
pub record SamePin (e d : MapEntry) (k l : ℕ) : Type 0 where
  pub port : e.port ≡ d.port
  pub place : k ≡ l

same_pin : (ports : List Port) (entries : List MapEntry) → KeepsRule (breaks_map ports) entries
    → (e d : MapEntry) → Has entries e → Has entries d → (k l : ℕ) (pin : List ℕ)
    → slice_get e.pins k ≡ Some pin → slice_get d.pins l ≡ Some pin → SamePin e d k l
same_pin ports entries h e d has_e has_d k l pin at_e at_d = by_order (has_place entries e has_e) (has_place entries d has_d)
  where
    ordered : (m n : ℕ) (a b : MapEntry) (i j : ℕ) → m < n → slice_get entries m ≡ Some a
        → slice_get entries n ≡ Some b → slice_get a.pins i ≡ Some pin
        → slice_get b.pins j ≡ Some pin → ⊥
    ordered m n a b i j less at_m at_n at_a at_b =
        none_seen (mapped_pins (take n entries)) b.pins pin
        (kept_entry ports (take n entries) b (holds_at (breaks_map ports) entries h n b at_n)).apart
        (has_flat_map (λ (v : MapEntry). v.pins) (take n entries) a pin
        (earlier entries m n a less at_m) (has_at a.pins i pin at_a)) (has_at b.pins j pin at_b)

    by_order : ((m : ℕ) × (slice_get entries m ≡ Some e)) → ((n : ℕ) × (slice_get entries n ≡ Some d)) → SamePin e d k l
    by_order (m, at_m) (n, at_n) = by_case (cases_order m n)
      where
        by_case : (m ≡ n) ⊎ ((m < n) ⊎ (n < m)) → SamePin e d k l
        by_case (inl same) =
            let some : ◌≡◌ {A = Option MapEntry} (Some e) (Some d) = sym at_m ∙ (ap (slice_get entries) same ∙ at_n) in
            let one : e ≡ d = cc some in
            record {
              port = ap (λ (v : MapEntry). v.port) one;
              place =
                  pins_once _ e.pins
                  (kept_entry ports _ e (holds_at (breaks_map ports) entries h m e at_m)).apart k l
                  pin pin at_e
                  (subst (λ (v : MapEntry). slice_get v.pins l ≡ Some pin) (sym one) at_d) refl;
            }
        by_case (inr (inl less)) = absurd (ordered m n e d k l less at_m at_n at_e at_d)
        by_case (inr (inr less)) = absurd (ordered n m d e l k less at_n at_m at_d at_e)

-- an entry of the pin map assigns this pin to the bit
record PinFrom (entries : List MapEntry) (bit : Bit) (pin : List ℕ) : Type 0 where
  entry : MapEntry
  has : Has entries entry
  named : entry.port ≡ bit.name
  at : slice_get entry.pins bit.place ≡ Some pin

pin_from : (entries : List MapEntry) (bit : Bit) (pin : List ℕ) → mapped_pin entries bit ≡ Some pin → PinFrom entries bit pin
pin_from entries bit pin e = by_found (find (maps_port bit.name) entries) refl e
  where
    by_found : (o : Option MapEntry) → find (maps_port bit.name) entries ≡ o
        → option_and_then (λ (entry : MapEntry). slice_get entry.pins bit.place) o ≡ Some pin
        → PinFrom entries bit pin
    by_found None found is = cc is
    by_found (Some entry) found is =
        let r = find_has (maps_port bit.name) entries entry found in
        record { entry = entry; has = r.0; named = same_name entry.port bit.name r.1; at = is }

pub pins_apart : (ports : List Port) (entries : List MapEntry) (taps : TapPorts)
    (compliance : Option Compliance) → PortsStand ports → v4 ports entries ≡ None
    → (i j : ℕ) (a b : PortBit) (pin : List ℕ)
    → slice_get (map (port_bit entries taps compliance) (all_port_bits ports)) i ≡ Some a
    → slice_get (map (port_bit entries taps compliance) (all_port_bits ports)) j ≡ Some b
    → a.pin ≡ Some pin → b.pin ≡ Some pin → i ≡ j
unfolding v4
pins_apart ports entries taps compliance stand e i j a b pin at_i at_j pin_a pin_b =
    let x = made_at (port_bit entries taps compliance) (all_port_bits ports) i a at_i in
    let y = made_at (port_bit entries taps compliance) (all_port_bits ports) j b at_j in
    let p = pin_from entries x.from pin (ap (λ (v : PortBit). v.pin) x.gives ∙ pin_a) in
    let q = pin_from entries y.from pin (ap (λ (v : PortBit). v.pin) y.gives ∙ pin_b) in
    let same = same_pin ports entries (holds (breaks_map ports) entries e) p.entry q.entry p.has
    q.has x.from.place y.from.place pin p.at q.at in
    let named : x.from.name ≡ y.from.name = sym p.named ∙ (same.port ∙ q.named) in
    let one : spot x.from
    ≡ spot y.from = ap (λ n. let s : List ℕ × ℕ = (n, x.from.place) in s) named
    ∙ ap (λ k. let s : List ℕ × ℕ = (y.from.name, k) in s) same.place in
    spots_once ports stand i j x.from y.from x.at y.at one

pub is_mapped : (ports : List Port) (entries : List MapEntry) → PortsStand ports
    → v4 ports entries ≡ None → (bit : Bit) → Has (all_port_bits ports) bit
    → is_some (mapped_pin entries bit) ≡ is_some (find (maps_port bit.name) entries)
unfolding v4
is_mapped ports entries stand e bit has = by_found (find (maps_port bit.name) entries) refl
  where
    by_found : (o : Option MapEntry) → find (maps_port bit.name) entries ≡ o
        → is_some (option_and_then (λ (entry : MapEntry). slice_get entry.pins bit.place) o)
        ≡ is_some o
    by_found None found = refl
    by_found (Some entry) found =
        let r = find_has (maps_port bit.name) entries entry found in
        let of : IsBitOf ports 0 bit = is_bit_of 0 ports bit has in
        let of_ports : Has ports of.port = has_at ports of.number of.port of.at in
        let s = has_place entries entry r.0 in
        let wide =
        (kept_entry ports _ entry
        (holds_at (breaks_map ports) entries (holds (breaks_map ports) entries e) s.0 entry
        s.1)).wide in
        let port : port_of ports entry.port
        ≡ Some of.port = port_is ports stand.once entry.port of.port of_ports
        (sym of.named ∙ sym (same_name entry.port bit.name r.1)) in
        let size : width of.port.range
        ≡ length entry.pins = eqb-true (width of.port.range) (length entry.pins)
        (sym (ap (λ o. has_width o (length entry.pins)) port) ∙ wide) in
        let many : length (indexes of.port.range) ≡ width of.port.range = length_indexes of.port.range (stand.ordered of.port of_ports) in
        let within : bit.place < length (indexes of.port.range) = slice_get_within (indexes of.port.range) bit.place bit.index of.indexed in
        there entry.pins bit.place (omega (arith, size, many, within))
