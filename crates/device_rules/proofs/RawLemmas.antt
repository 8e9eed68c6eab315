-- Lemmas about the bits of a device, which a loop makes port by port.
use Rattle.std.proofs.Common.{◌≡◌, ℕ, zero, suc, ◌+◌, ◌<◌, Bool, true, List, [], ◌∷◌, ◌++◌, length, map, take, drop, get_or, Option, None, sym, ap, ◌∙◌, arith, append_assoc}
use Rattle.std.specs.Prelude.{option_and_then, slice_get, find}
use Rattle.std.specs.List.{list_any}
use Rattle.std.proofs.lemmas.List.{map-append, drop_more, take_more}
use Rattle.board_defs.specs.declared.device.Mode.{Mode}
use Rattle.board_defs.specs.declared.device.PortBit.{PortBit}
use Rattle.bsdl_parser.specs.declared.entity.Port.{Port}
use Rattle.bsdl_strings.specs.declared.values.Compliance.{Compliance}
use Rattle.device_rules.specs.declared.draft.TapPorts.{TapPorts}
use Rattle.device_rules.specs.Taps.{is_named_among, tap_names}
use Rattle.device_rules.specs.Raw.{mapped_pin, port_bit}
use Rattle.device_rules.proofs.NamedLemmas.{in_compliance_is}
use Rattle.bsdl_strings.specs.declared.values.MapEntry.{MapEntry}
use Rattle.device_rules.specs.Ports.{Bit, range_in_order, width, indexes, bits_along, bits_in_port, bits_from, v2}
use Rattle.device_rules.specs.PinMap.{maps_port}
use Rattle.device_rules.specs.inner.Index.{index_at, bit_of_port, names_bit, compliance_words}
use Rattle.device_rules.proofs.RangeLemmas.{index_found, length_indexes}
use Rattle.device_rules.proofs.BitLemmas.{Apart, apart, length_bits}

-- a port bit, made from its fields
abbrev pub made : ℕ → Mode → Option ℕ → Option (List ℕ) → Bool → Bool → PortBit
made number mode index pin tap named = record { port = number; index = index; mode = mode; pin = pin; tap = tap; compliance = named }

-- the bit of the port with this index and this place
abbrev bit_with : ℕ → Port → Option ℕ → ℕ → Bit
bit_with number port index place = record { port = number; name = port.name; index = index; place = place; mode = port.mode }

get_along : (number : ℕ) (port : Port) (place : ℕ) (ixs : List (Option ℕ)) (k : ℕ) (d : Bit)
    → k < length ixs
    → get_or (bits_along number port place ixs) k d
    ≡ bit_with number port (get_or ixs k None) (place + k)
get_along number port place [] k d less = absurd (omega arith)
get_along number port place (i ∷ ixs) zero d less = let sums : place ≡ place + zero = omega arith in ap (bit_with number port i) sums
get_along number port place (i ∷ ixs) (suc k) d less =
    let sums : (place + 1) + k ≡ place + suc k = omega arith in
    get_along number port (place + 1) ixs k d (omega arith) ∙ ap (bit_with number port (get_or ixs k None)) sums

get_bit : (number : ℕ) (port : Port) (k : ℕ) (d : Bit) → range_in_order port.range ≡ true
    → k < width port.range → get_or (bits_in_port number port) k d ≡ bit_of_port number port k
get_bit number port k d e less =
    let within : k < length (indexes port.range) = omega (arith, less, length_indexes port.range e) in
    get_along number port 0 (indexes port.range) k d within
    ∙ ap (λ p. bit_with number port (get_or (indexes port.range) k None) p) (omega arith)
    ∙ ap (λ i. bit_with number port i k) (index_found port.range k e less)

pub bits_step : {B : Type 0} (f : Bit → B) (number : ℕ) (port : Port) (k : ℕ) (before : List B)
    → range_in_order port.range ≡ true → k < width port.range
    → (before ++ map f (take k (bits_in_port number port))) ++ f (bit_of_port number port k) ∷ []
    ≡ before ++ map f (take (k + 1) (bits_in_port number port))
bits_step f number port k before e less =
    let bits = bits_in_port number port in
    let within : k < length bits = omega (arith, less, length_bits number port e) in
    let more : take (k + 1) bits
    ≡ take k bits
    ++ bit_of_port number port k ∷ [] = take_more bits k (bit_of_port number port k) within
    ∙ ap (λ b. take k bits ++ b ∷ [])
    (get_bit number port k (bit_of_port number port k) e less) in
    append_assoc before (map f (take k bits)) (f (bit_of_port number port k) ∷ [])
    ∙ ap (λ bs. before ++ bs)
    (sym (map-append f (take k bits) (bit_of_port number port k ∷ [])) ∙ sym (ap (map f) more))

-- one step of a loop over the ports: `before` has the bits made before port `i`, and `new` has the
-- bits made after it
pub ports_step : {B : Type 0} (f : Bit → B) (ports : List Port) (i : ℕ) (port : Port)
    (before all new : List B) → i < length ports → get_or ports i port ≡ port
    → all ≡ before ++ map f (bits_from i (drop i ports))
    → new ≡ before ++ map f (bits_in_port i port) → all ≡ new ++ map f (bits_from (i + 1) (drop (i + 1) ports))
ports_step f ports i port before all new less is so_far added =
    let cut : drop i ports ≡ port ∷ drop (i + 1) ports = drop_more ports i port less ∙ ap (λ x. x ∷ drop (i + 1) ports) is in
    so_far ∙ ap (λ ps. before ++ map f (bits_from i ps)) cut
    ∙ ap (λ bs. before ++ bs)
    (map-append f (bits_in_port i port) (bits_from (i + 1) (drop (i + 1) ports)))
    ∙ sym
    (append_assoc before (map f (bits_in_port i port))
    (map f (bits_from (i + 1) (drop (i + 1) ports))))
    ∙ ap (λ bs. bs ++ map f (bits_from (i + 1) (drop (i + 1) ports))) (sym added)

ordered_in : (ports : List Port) (i : ℕ) (port : Port) → Apart ports → i < length ports
    → get_or ports i port ≡ port → range_in_order port.range ≡ true
ordered_in [] i port h less is = absurd (omega arith)
ordered_in (p ∷ ports) zero port h less is = ap (λ q. range_in_order q.range) (sym is) ∙ h.0
ordered_in (p ∷ ports) (suc i) port h less is = ordered_in ports i port h.2 (omega arith) is

pub ordered_at : (ports : List Port) (i : ℕ) (port : Port) → v2 ports ≡ None → i < length ports
    → get_or ports i port ≡ port → range_in_order port.range ≡ true
ordered_at ports i port e less is = ordered_in ports i port (apart ports e) less is

pub bit_is : (entries : List MapEntry) (taps : TapPorts) (compliance : Option Compliance)
    (number : ℕ) (port : Port) (place : ℕ) (name : List ℕ) (index : Option ℕ)
    (pin : Option (List ℕ)) (tap named : Bool)
    → name ≡ port.name → index ≡ index_at port.range place
    → pin
    ≡ option_and_then (λ entry. slice_get entry.pins place)
    (find (maps_port port.name) entries) → tap ≡ is_named_among (tap_names taps) port.name
    → named ≡ list_any (names_bit name index) (compliance_words compliance)
    → made number port.mode index pin tap named ≡ port_bit entries taps compliance (bit_of_port number port place)
bit_is entries taps compliance number port place name index pin tap named n i p t c =
    ap (λ x. made number port.mode x pin tap named) i
    ∙ ap (λ x. made number port.mode (index_at port.range place) x tap named) p
    ∙ ap (λ x. made number port.mode (index_at port.range place) (mapped_pin entries (bit_of_port number port place)) x named) t
    ∙ ap
    (λ x. made number port.mode (index_at port.range place)
    (mapped_pin entries (bit_of_port number port place))
    (is_named_among (tap_names taps) port.name) x)
    (c ∙ ap (λ m. list_any (names_bit m index) (compliance_words compliance)) n
    ∙ ap (λ x. list_any (names_bit port.name x) (compliance_words compliance)) i
    ∙ in_compliance_is compliance (bit_of_port number port place))
