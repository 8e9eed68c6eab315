-- The TAP ports of a device are plain ports, which are ports without a range. One of them has mode out, and the other
-- three or four have mode in.
use Rattle.std.proofs.Common.{◌≡◌, ◌≢◌, ℕ, zero, suc, ◌+◌, Bool, true, false, not, ◌&&◌, ◌||◌, cond, List, [], ◌∷◌, ◌++◌, map, Option, Some, None, refl, sym, ◌∙◌, ap, subst, arith, ◌⊎◌, inl, inr}
use Rattle.std.specs.Prelude.{slice_get, count_by, is_none, IsTrue}
use Rattle.std.specs.List.{list_all}
use Rattle.std.specs.Str.{bytes_eq}
use Rattle.std.proofs.lemmas.Bool.{or_parts, and_parts, not-false, false_from_ne_true}
use Rattle.std.proofs.lemmas.List.Sums.{sum_by-cons, sum_by-append}
use Rattle.lists.proofs.Booleans.{clash}
use Rattle.board_defs.specs.declared.device.Mode.{Mode}
use Rattle.board_defs.specs.declared.device.Mode.TheVariants.{Inward, Outward, Both, Buffer, Linkage}
use Rattle.board_defs.specs.declared.device.PortBit.{PortBit}
use Rattle.board_defs.specs.DeviceRules.{may_drive, may_receive, IsTapBit, HasTap}
use Rattle.board_defs.proofs.Members.{Has, has_at, has_append, map_has, any_has, all_has, find_has, all_from_has}
use Rattle.bsdl_parser.specs.declared.entity.Attribute.TheVariants.{TapScanIn, TapScanOut, TapScanMode, TapScanClock, TapScanReset, CompliancePatterns}
use Rattle.bsdl_parser.specs.declared.entity.Port.{Port}
use Rattle.bsdl_parser.specs.declared.entity.Range.{Range}
use Rattle.bsdl_parser.specs.AttributeNumbers.{attribute_number}
use Rattle.bsdl_strings.specs.declared.values.Compliance.{Compliance}
use Rattle.device_rules.specs.declared.draft.Draft.{Draft}
use Rattle.device_rules.specs.declared.draft.TapPorts.{TapPorts}
use Rattle.first_places.specs.Items.{or_else, broken_by}
use Rattle.device_rules.specs.Ports.{port_named, port_of, Bit, indexes, bits_along, bits_in_port, bits_from, all_port_bits}
use Rattle.device_rules.specs.Taps.{is_inward, is_outward, is_plain_port, is_named_among, breaks_tap, reset_breaks, four_taps, listed_name, tap_names, wrong_tap, complies, v3}
use Rattle.device_rules.specs.Raw.{port_bit, raw_bits, raw_device}
use Rattle.device_rules.proofs.IsDeviceLists.{same_name, name_same, Once, once_tail, once_head, once_item}
use Rattle.device_rules.proofs.IsDevicePorts.{PortsStand, IsBitOf, is_bit_of, is_of_port}

-- a plain port has this name and this mode
record IsTap (ports : List Port) (name : List ℕ) (mode : Mode) : Type 0 where
  port : Port
  has : Has ports port
  named : port.name ≡ name
  plain : port.range ≡ None
  of_mode : port.mode ≡ mode

-- the names differ, and each is the name of a plain port whose mode is the item at the same place
-- in the list of modes
abbrev AreTaps : List Port → List (List ℕ) → List Mode → Type 0
AreTaps ports [] [] = Unit {0}
AreTaps ports [] (mode ∷ modes) = ⊥
AreTaps ports (name ∷ names) [] = ⊥
AreTaps ports (name ∷ names) (mode ∷ modes) =
    IsTap ports name mode × ((other : List ℕ) → Has names other → name ≢ other)
    × AreTaps ports names modes

one_more : (ports : List Port) (names : List (List ℕ)) (modes : List Mode) (name : List ℕ)
    (mode : Mode) → AreTaps ports names modes → is_named_among names name ≡ false
    → IsTap ports name mode → AreTaps ports (names ++ name ∷ []) (modes ++ mode ∷ [])
one_more ports [] [] name mode h new tap = (tap, λ other k. absurd k, tt)
one_more ports [] (m ∷ modes) name mode h new tap = absurd h
one_more ports (n ∷ names) [] name mode h new tap = absurd h
one_more ports (n ∷ names) (m ∷ modes) name mode h new tap =
    let parts = or_parts (bytes_eq name n) (is_named_among names name) new in
    (h.0, λ other k. apart other parts.0 (has_append names (name ∷ []) other k), one_more ports names modes name mode h.2 parts.1 tap)
  where
    apart : (other : List ℕ) → bytes_eq name n ≡ false → Has names other ⊎ Has (name ∷ []) other → n ≢ other
    apart other new (inl k) e = h.1 other k e
    apart other new (inr (inl same)) e = clash (bytes_eq name n) (name_same name n (same ∙ sym e)) new
    apart other new (inr (inr k)) e = absurd k

no_range : (range : Option Range) → is_none range ≡ true → range ≡ None
no_range None e = refl
no_range (Some range) e = cc e

is_tap : (ports : List Port) (before : List (List ℕ)) (name : List ℕ) (test : Mode → Bool)
    (mode : Mode) → ((m : Mode) → test m ≡ true → m ≡ mode)
    → breaks_tap test ports before name ≡ false → IsTap ports name mode
is_tap ports before name test mode means e =
    by_found (port_of ports name) refl
    (not-false (is_plain_port test (port_of ports name))
    (or_parts (is_named_among before name) _ e).1)
  where
    by_found : (o : Option Port) → port_of ports name ≡ o → is_plain_port test o ≡ true → IsTap ports name mode
    by_found None found plain = cc plain
    by_found (Some port) found plain =
        let r = find_has (port_named name) ports port found in
        let p = and_parts (is_none port.range) (test port.mode) plain in
        record {
          port = port;
          has = r.0;
          named = same_name port.name name r.1;
          plain = no_range
              port.range p.0;
          of_mode = means port.mode p.1;
        }

inward : (mode : Mode) → is_inward mode ≡ true → mode ≡ Inward
inward Inward e = refl
inward Outward e = cc e
inward Both e = cc e
inward Buffer e = cc e
inward Linkage e = cc e

outward : (mode : Mode) → is_outward mode ≡ true → mode ≡ Outward
outward Outward e = refl
outward Inward e = cc e
outward Both e = cc e
outward Buffer e = cc e
outward Linkage e = cc e

next_tap : (ports : List Port) (names : List (List ℕ)) (modes : List Mode) (name : List ℕ)
    (test : Mode → Bool) (mode : Mode) → ((m : Mode) → test m ≡ true → m ≡ mode)
    → AreTaps ports names modes → breaks_tap test ports names name ≡ false
    → AreTaps ports (names ++ name ∷ []) (modes ++ mode ∷ [])
next_tap ports names modes name test mode means h e =
    one_more ports names modes name mode h (or_parts (is_named_among names name) _ e).0
    (is_tap ports names name test mode means e)

-- the modes of TDI, TDO, TMS, TCK and, if the device has one, TRST*
abbrev tap_modes : Option (List ℕ) → List Mode
tap_modes None = Inward ∷ Outward ∷ Inward ∷ Inward ∷ []
tap_modes (Some name) = Inward ∷ Outward ∷ Inward ∷ Inward ∷ Inward ∷ []

either_none : (a b : Option ℕ) → or_else a b ≡ None → (a ≡ None) × (b ≡ None)
either_none None b e = (refl, e)
either_none (Some n) b e = cc e

not_broken : (n : ℕ) (b : Bool) → broken_by n b ≡ None → b ≡ false
not_broken n true e = cc e
not_broken n false e = refl

are_taps : (ports : List Port) (taps : TapPorts) (compliance : Option Compliance)
    → v3 ports taps compliance ≡ None → AreTaps ports (tap_names taps) (tap_modes taps.reset)
unfolding v3
are_taps ports taps compliance e =
    let z = either_none (wrong_tap ports taps) (broken_by (attribute_number CompliancePatterns) (not (complies ports compliance))) e in
    let a = either_none (broken_by (attribute_number TapScanIn) (breaks_tap is_inward ports [] taps.scan_in)) _ z.0 in
    let b = either_none (broken_by (attribute_number TapScanOut) (breaks_tap is_outward ports (taps.scan_in ∷ []) taps.scan_out)) _ a.1 in
    let c = either_none
    (broken_by (attribute_number TapScanMode)
    (breaks_tap is_inward ports (taps.scan_in ∷ taps.scan_out ∷ []) taps.mode)) _ b.1 in
    let d = either_none
    (broken_by (attribute_number TapScanClock)
    (breaks_tap is_inward ports (taps.scan_in ∷ taps.scan_out ∷ taps.mode ∷ []) taps.clock))
    (broken_by (attribute_number TapScanReset) (reset_breaks ports (four_taps taps) taps.reset))
    c.1 in
    let one : AreTaps ports (taps.scan_in ∷ []) (Inward ∷ []) = next_tap ports [] [] taps.scan_in
    is_inward Inward inward tt (not_broken (attribute_number TapScanIn) _ a.0) in
    let two : AreTaps ports (taps.scan_in ∷ taps.scan_out ∷ []) (Inward ∷ Outward ∷ []) = next_tap
    ports (taps.scan_in ∷ []) (Inward ∷ []) taps.scan_out is_outward Outward outward one
    (not_broken (attribute_number TapScanOut) _ b.0) in
    let three : AreTaps ports (taps.scan_in ∷ taps.scan_out ∷ taps.mode ∷ []) (Inward ∷ Outward ∷ Inward ∷ []) =
    next_tap ports (taps.scan_in ∷ taps.scan_out ∷ []) (Inward ∷ Outward ∷ []) taps.mode is_inward
    Inward inward two (not_broken (attribute_number TapScanMode) _ c.0) in
    let four : AreTaps ports (four_taps taps) (Inward ∷ Outward ∷ Inward ∷ Inward ∷ []) =
    next_tap ports (taps.scan_in ∷ taps.scan_out ∷ taps.mode ∷ []) (Inward ∷ Outward ∷ Inward ∷ [])
    taps.clock is_inward Inward inward three (not_broken (attribute_number TapScanClock) _ d.0)
    in
    by_reset taps.reset four (not_broken (attribute_number TapScanReset) (reset_breaks ports (four_taps taps) taps.reset) d.1)
  where
    by_reset : (reset : Option (List ℕ))
        → AreTaps ports (four_taps taps) (Inward ∷ Outward ∷ Inward ∷ Inward ∷ [])
        → reset_breaks ports (four_taps taps) reset ≡ false
        → AreTaps ports (four_taps taps ++ listed_name reset) (tap_modes reset)
    by_reset None four r = four
    by_reset (Some name) four r =
        next_tap ports (four_taps taps) (Inward ∷ Outward ∷ Inward ∷ Inward ∷ []) name is_inward
        Inward inward four r

none_counted : {X : Type 0} (p : X → Bool) (xs : List X) → ((x : X) → Has xs x → p x ≡ false) → count_by p xs ≡ 0
none_counted p [] h = refl
none_counted p (x ∷ xs) h =
    let here : ◌≡◌ {A = ℕ} (cond (p x) 1 0) 0 = ap (λ b. cond b 1 0) (h x (inl refl)) in
    let rest : count_by p xs ≡ 0 = none_counted p xs (λ y k. h y (inr k)) in
    omega (arith, sum_by-cons (λ v. cond (p v) 1 0) x xs, here, rest)

made_counted : {X Y : Type 0} (f : X → Y) (p : Y → Bool) (xs : List X) → count_by p (map f xs) ≡ count_by (λ x. p (f x)) xs
made_counted f p [] = refl
made_counted f p (x ∷ xs) =
    let rest : count_by p (map f xs) ≡ count_by (λ v. p (f v)) xs = made_counted f p xs in
    omega (arith, sum_by-cons (λ v. cond (p v) 1 0) (f x) (map f xs), sum_by-cons (λ v. cond (p (f v)) 1 0) x xs, rest)

both_counted : {X : Type 0} (p q r : X → Bool) (xs : List X)
    → ((x : X) → ◌≡◌ {A = ℕ} (cond (p x) 1 0) (cond (q x) 1 0 + cond (r x) 1 0))
    → count_by p xs ≡ count_by q xs + count_by r xs
both_counted p q r [] h = refl
both_counted p q r (x ∷ xs) h =
    let rest : count_by p xs ≡ count_by q xs + count_by r xs = both_counted p q r xs h in
    omega (
      arith,
      sum_by-cons (λ v. cond (p v) 1 0) x xs,
      sum_by-cons (λ v. cond (q v) 1 0) x xs,
      sum_by-cons (λ v. cond (r v) 1 0) x xs,
      h x,
      rest,
    )

-- the bit has this name, and its mode passes the test `mode`
abbrev tapped_by : List ℕ → (Mode → Bool) → Bit → Bool
tapped_by name mode bit = bytes_eq bit.name name && mode bit.mode

abbrev tapped : List (List ℕ) → (Mode → Bool) → Bit → Bool
tapped names mode bit = is_named_among names bit.name && mode bit.mode

another : (name : List ℕ) (mode : Mode → Bool) (bit : Bit) → bit.name ≢ name → tapped_by name mode bit ≡ false
another name mode bit ne = ap (λ b. b && mode bit.mode) (false_from_ne_true (bytes_eq bit.name name) (λ t. ne (same_name bit.name name t)))

one_counted : {X : Type 0} (p : X → Bool) (x : X) → count_by p (x ∷ []) ≡ cond (p x) 1 0
one_counted {X} p x = let none : count_by p [] ≡ 0 = refl in omega (arith, sum_by-cons (λ v. cond (p v) 1 0) x [], none)

abbrev only_bit : ℕ → Port → Bit
only_bit number port = record { port = number; name = port.name; index = None; place = 0; mode = port.mode }

here_counted : (number : ℕ) (port : Port) (name : List ℕ) (mode : Mode → Bool) → port.name ≡ name
    → port.range ≡ None
    → count_by (tapped_by name mode) (bits_in_port number port) ≡ cond (mode port.mode) 1 0
here_counted number port name mode named plain =
    ap (λ range. count_by (tapped_by name mode) (bits_along number port 0 (indexes range))) plain
    ∙ (one_counted (tapped_by name mode) (only_bit number port) ∙ ap (λ b. cond (b && mode port.mode) 1 0) (name_same port.name name named))

-- Exactly one bit has the name of a plain port. So the number of bits that have this name and a mode that passes the
-- test `mode` is 1 if the port's mode passes the test, and otherwise 0.
name_counted : (first : ℕ) (ports : List Port) → Once (λ port. port.name) ports → (port : Port)
    → Has ports port → port.range ≡ None → (mode : Mode → Bool)
    → count_by (tapped_by port.name mode) (bits_from first ports) ≡ cond (mode port.mode) 1 0
name_counted first [] once port has plain mode = absurd has
name_counted first (p ∷ ports) once port (inl same) plain mode =
    let here : count_by (tapped_by port.name mode) (bits_in_port first p)
    ≡ cond (mode port.mode) 1 0 = here_counted first p port.name mode
    (ap (λ (v : Port). v.name) same) (ap (λ (v : Port). v.range) same ∙ plain)
    ∙ ap (λ (v : Port). cond (mode v.mode) 1 0) same in
    let rest : count_by (tapped_by port.name mode) (bits_from (first + 1) ports) ≡ 0 = none_counted
    (tapped_by port.name mode) (bits_from (first + 1) ports)
    (λ bit h. another port.name mode bit (λ e.
    let r = is_bit_of (first + 1) ports bit h in
    once_head (λ v. v.name) p ports r.port once (has_at ports r.number r.port r.at)
    (ap (λ (v : Port). v.name) same ∙ (sym e ∙ r.named)))) in
    omega (
      arith,
      sum_by-append (λ v. cond (tapped_by port.name mode v) 1 0) (bits_in_port first p)
          (bits_from (first + 1) ports),
      here,
      rest,
    )
name_counted first (p ∷ ports) once port (inr has) plain mode =
    let none : count_by (tapped_by port.name mode) (bits_in_port first p) ≡ 0 = none_counted
    (tapped_by port.name mode) (bits_in_port first p) (λ bit h. another port.name mode bit (λ e.
    once_head (λ v. v.name) p ports port once has (sym (is_of_port first p bit h).named ∙ e))) in
    let rest : count_by (tapped_by port.name mode) (bits_from (first + 1) ports)
    ≡ cond (mode port.mode) 1 0 = name_counted (first + 1) ports
    (once_tail (λ v. v.name) p ports once) port has plain mode in
    omega (
      arith,
      sum_by-append (λ v. cond (tapped_by port.name mode v) 1 0) (bits_in_port first p)
          (bits_from (first + 1) ports),
      none,
      rest,
    )

split_test : (a b m : Bool) → (a ≡ true → b ≡ true → ⊥) → ◌≡◌ {A = ℕ} (cond ((a || b) && m) 1 0) (cond (a && m) 1 0 + cond (b && m) 1 0)
split_test true true m h = absurd (h refl refl)
split_test true false true h = refl
split_test true false false h = refl
split_test false true true h = refl
split_test false true false h = refl
split_test false false true h = refl
split_test false false false h = refl

taps_counted : (ports : List Port) → PortsStand ports → (names : List (List ℕ)) (modes : List Mode)
    → AreTaps ports names modes → (mode : Mode → Bool)
    → count_by (tapped names mode) (all_port_bits ports) ≡ count_by mode modes
taps_counted ports stand [] [] h mode = none_counted (tapped [] mode) (all_port_bits ports) (λ bit k. refl)
taps_counted ports stand [] (m ∷ modes) h mode = absurd h
taps_counted ports stand (name ∷ names) [] h mode = absurd h
taps_counted ports stand (name ∷ names) (m ∷ modes) h mode =
    let tap : IsTap ports name m = h.0 in
    let here : count_by (tapped_by name mode) (all_port_bits ports) ≡ cond (mode m) 1 0 =
    ap (λ n. count_by (tapped_by n mode) (all_port_bits ports)) (sym tap.named)
    ∙ (name_counted 0 ports stand.once tap.port tap.has tap.plain mode
    ∙ ap (λ v. cond (mode v) 1 0) tap.of_mode) in
    let rest : count_by (tapped names mode) (all_port_bits ports) ≡ count_by mode modes = taps_counted ports stand names modes h.2 mode in
    let both : count_by (tapped (name ∷ names) mode) (all_port_bits ports)
    ≡ count_by (tapped_by name mode) (all_port_bits ports) + count_by (tapped names mode)
    (all_port_bits ports) =
    both_counted (tapped (name ∷ names) mode) (tapped_by name mode) (tapped names mode)
    (all_port_bits ports)
    (λ bit. split_test (bytes_eq bit.name name) (is_named_among names bit.name) (mode bit.mode)
    (λ is among.
    let r = any_has (bytes_eq bit.name) names among in
    h.1 r.0 r.1 (sym (same_name bit.name name is) ∙ same_name bit.name r.0 r.2))) in
    omega (arith, sum_by-cons (λ v. cond (mode v) 1 0) m modes, here, rest, both)

-- a plain port has this name, and its mode is one of `modes`
record HasMode (ports : List Port) (name : List ℕ) (modes : List Mode) : Type 0 where
  mode : Mode
  has : Has modes mode
  tap : IsTap ports name mode

tap_of : (ports : List Port) (names : List (List ℕ)) (modes : List Mode) → AreTaps ports names modes
    → (name : List ℕ) → Has names name → HasMode ports name modes
tap_of ports [] [] h name k = absurd k
tap_of ports [] (m ∷ modes) h name k = absurd h
tap_of ports (n ∷ names) [] h name k = absurd h
tap_of ports (n ∷ names) (m ∷ modes) h name (inl same) =
    record {
      mode = m;
      has = inl refl;
      tap = let P : List ℕ → Type 0 = λ v. IsTap ports v m in
          subst P same h.0;
    }
tap_of ports (n ∷ names) (m ∷ modes) h name (inr k) =
    let r : HasMode ports name modes = tap_of ports names modes h.2 name k in
    record { mode = r.mode; has = inr r.has; tap = r.tap }

abbrev is_tap_mode : Mode → Bool
is_tap_mode mode = is_inward mode || is_outward mode

all_tap_modes : (reset : Option (List ℕ)) → list_all is_tap_mode (tap_modes reset) ≡ true
all_tap_modes None = refl
all_tap_modes (Some name) = refl

in_or_out : (mode : Mode) → is_tap_mode mode ≡ true → (mode ≡ Inward) ⊎ (mode ≡ Outward)
in_or_out Inward e = inl refl
in_or_out Outward e = inr refl
in_or_out Both e = cc e
in_or_out Buffer e = cc e
in_or_out Linkage e = cc e

no_index : (place : ℕ) (index : Option ℕ) → slice_get (None ∷ []) place ≡ Some index → index ≡ None
no_index zero index e = cc e
no_index (suc place) index e = cc e

tap_bit : (ports : List Port) → PortsStand ports → (taps : TapPorts)
    → AreTaps ports (tap_names taps) (tap_modes taps.reset) → (bit : Bit)
    → Has (all_port_bits ports) bit → is_named_among (tap_names taps) bit.name ≡ true
    → (bit.index ≡ None) × ((bit.mode ≡ Inward) ⊎ (bit.mode ≡ Outward))
tap_bit ports stand taps h bit has among =
    let r = any_has (bytes_eq bit.name) (tap_names taps) among in
    let s : HasMode ports r.0 (tap_modes taps.reset) = tap_of ports (tap_names taps) (tap_modes taps.reset) h r.0 r.1 in
    let of : IsBitOf ports 0 bit = is_bit_of 0 ports bit has in
    let one : of.port
    ≡ s.tap.port = once_item (λ p. p.name) ports stand.once of.port s.tap.port
    (has_at ports of.number of.port of.at) s.tap.has
    (sym of.named ∙ (same_name bit.name r.0 r.2 ∙ sym s.tap.named)) in
    let plain : of.port.range ≡ None = ap (λ (p : Port). p.range) one ∙ s.tap.plain in
    let mode : s.mode ≡ bit.mode = sym s.tap.of_mode ∙ (ap (λ (p : Port). p.mode) (sym one) ∙ sym of.of_mode) in
    let index : slice_get (None ∷ []) bit.place
    ≡ Some bit.index = subst
    (λ (range : Option Range). slice_get (indexes range) bit.place ≡ Some bit.index) plain
    of.indexed in
    let P : Mode → Type 0 = λ m. (m ≡ Inward) ⊎ (m ≡ Outward) in (
      no_index bit.place bit.index index,
      subst P mode
          (in_or_out s.mode
          (all_has is_tap_mode (tap_modes taps.reset) s.mode (all_tap_modes taps.reset) s.has)),
    )

pub has_tap : (draft : Draft) → PortsStand draft.ports → v3 draft.ports draft.taps draft.compliance ≡ None → HasTap (raw_device draft).bits
unfolding raw_bits
has_tap draft stand e =
    let taps : AreTaps draft.ports (tap_names draft.taps) (tap_modes draft.taps.reset) = are_taps
    draft.ports draft.taps draft.compliance e in
    let made : Bit → PortBit = port_bit draft.map draft.taps draft.compliance in
    let counted : (mode : Mode → Bool)
    → count_by (λ (bit : PortBit). bit.tap && mode bit.mode)
    (map made (all_port_bits draft.ports)) ≡ count_by mode (tap_modes draft.taps.reset) =
    λ mode. made_counted made (λ (bit : PortBit). bit.tap && mode bit.mode)
    (all_port_bits draft.ports)
    ∙ taps_counted draft.ports stand (tap_names draft.taps) (tap_modes draft.taps.reset) taps
    mode in
    record {
      plain = all_from_has (λ (bit : PortBit). IsTrue bit.tap → IsTapBit bit) (map made (all_port_bits draft.ports)) (λ bit has is.
          let r = map_has made (all_port_bits draft.ports) bit has in
          let Q : PortBit → Type 0 = IsTapBit in
          subst Q r.2 (tap_bit draft.ports stand draft.taps taps r.0 r.1 (ap (λ (b : PortBit). b.tap) r.2 ∙ is)));
      outward = counted may_drive ∙ one_out draft.taps.reset;
      inward = by_in (counted may_receive) (three_in draft.taps.reset);
    }
  where
    one_out : (reset : Option (List ℕ)) → count_by may_drive (tap_modes reset) ≡ 1
    one_out None = refl
    one_out (Some name) = refl

    three_in : (reset : Option (List ℕ)) → (count_by may_receive (tap_modes reset) ≡ 3) ⊎ (count_by may_receive (tap_modes reset) ≡ 4)
    three_in None = inl refl
    three_in (Some name) = inr refl

    by_in : {n m : ℕ} → n ≡ m → (m ≡ 3) ⊎ (m ≡ 4) → (n ≡ 3) ⊎ (n ≡ 4)
    by_in e (inl h) = inl (e ∙ h)
    by_in e (inr h) = inr (e ∙ h)
