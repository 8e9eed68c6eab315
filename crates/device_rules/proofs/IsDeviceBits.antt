-- The bits of a device are in the order of its ports, and the bits with a port's number are the
-- bits of that port.
use Rattle.std.proofs.Common.{◌≡◌, ◌≢◌, ℕ, zero, suc, ◌+◌, ◌<◌, ◌≤◌, ◌==◌, Bool, true, false, cond, List, [], ◌∷◌, ◌++◌, map, length, get_or, Option, Some, None, refl, sym, ◌∙◌, ap, subst, arith, inl, inr, append-nil}
use Rattle.std.specs.Prelude.{slice_get, All, AllPairs, filter, find, is_some}
use Rattle.std.specs.List.Sorted.{IsNonDecreasing}
use Rattle.std.proofs.lemmas.Bool.{ne_eqb, eq-eqb}
use Rattle.std.proofs.lemmas.List.{length-map}
use Rattle.std.proofs.lemmas.List.Elements.{All-cons, All-nil, filter-append}
use Rattle.std.proofs.lemmas.Option.{slice_get_within, slice_get-get_or}
use Rattle.board_defs.specs.declared.device.PortBit.{PortBit}
use Rattle.board_defs.specs.DeviceRules.{AreIndexed, ArePort, AreOfPorts}
use Rattle.board_defs.proofs.Members.{Has, map_has, filter_has, all_from_has}
use Rattle.bsdl_parser.specs.declared.entity.Port.{Port}
use Rattle.bsdl_parser.specs.declared.entity.Range.{Range}
use Rattle.bsdl_strings.specs.declared.values.MapEntry.{MapEntry}
use Rattle.bsdl_strings.specs.declared.values.Compliance.{Compliance}
use Rattle.device_rules.specs.declared.draft.Draft.{Draft}
use Rattle.device_rules.specs.declared.draft.TapPorts.{TapPorts}
use Rattle.device_rules.specs.Ports.{Bit, indexes, bits_along, bits_in_port, bits_from, all_port_bits}
use Rattle.device_rules.specs.PinMap.{maps_port, v4}
use Rattle.device_rules.specs.Raw.{port_bit, raw_bits, raw_device}
use Rattle.device_rules.proofs.IsDeviceLists.{all_alike, made_at}
use Rattle.device_rules.proofs.IsDevicePorts.{PortsStand, IsBitOf, is_bit_of, is_of_port}
use Rattle.device_rules.proofs.IsDevicePins.{is_mapped}

filter_made : {X Y : Type 0} (f : X → Y) (p : Y → Bool) (q : X → Bool) → ((x : X) → p (f x) ≡ q x)
    → (xs : List X) → filter p (map f xs) ≡ map f (filter q xs)
filter_made f p q same [] = refl
filter_made {X} {Y} f p q same (x ∷ xs) =
    ap (λ b. cond b (f x ∷ filter p (map f xs)) (filter p (map f xs))) (same x)
    ∙ by_test (q x) (filter_made f p q same xs)
  where
    by_test : (b : Bool) → filter p (map f xs) ≡ map f (filter q xs)
        → cond b (f x ∷ filter p (map f xs)) (filter p (map f xs))
        ≡ map f (cond b (x ∷ filter q xs) (filter q xs))
    by_test true e = ap (λ v. f x ∷ v) e
    by_test false e = e

filter_all : {X : Type 0} (p : X → Bool) (xs : List X) → ((x : X) → Has xs x → p x ≡ true) → filter p xs ≡ xs
filter_all p [] h = refl
filter_all p (x ∷ xs) h =
    ap (λ b. cond b (x ∷ filter p xs) (filter p xs)) (h x (inl refl))
    ∙ ap (λ v. x ∷ v) (filter_all p xs (λ y k. h y (inr k)))

filter_none : {X : Type 0} (p : X → Bool) (xs : List X) → ((x : X) → Has xs x → p x ≡ false) → filter p xs ≡ []
filter_none p [] h = refl
filter_none p (x ∷ xs) h = ap (λ b. cond b (x ∷ filter p xs) (filter p xs)) (h x (inl refl)) ∙ filter_none p xs (λ y k. h y (inr k))

-- the bit belongs to port `k`
abbrev is_of : ℕ → Bit → Bool
is_of k bit = bit.port == k

bits_kept : (k first m : ℕ) (ports : List Port) (port : Port) → k ≡ first + m
    → slice_get ports m ≡ Some port → filter (is_of k) (bits_from first ports) ≡ bits_in_port k port
bits_kept k first m [] port here at = cc at
bits_kept k first zero (p ∷ ports) port here at =
    let same : p ≡ port = cc at in
    let number : first ≡ k = omega arith in
    let mine : filter (is_of k) (bits_in_port first p)
    ≡ bits_in_port first p = filter_all (is_of k) (bits_in_port first p)
    (λ bit h. eq-eqb bit.port k ((is_of_port first p bit h).numbered ∙ number)) in
    let others : filter (is_of k) (bits_from (first + 1) ports)
    ≡ [] = filter_none (is_of k) (bits_from (first + 1) ports)
    (λ bit h. ne_eqb bit.port k
    (λ e. absurd (omega (arith, (is_bit_of (first + 1) ports bit h).numbered)))) in
    filter-append (is_of k) (bits_in_port first p) (bits_from (first + 1) ports) ∙
    (ap (λ v. v ++ filter (is_of k) (bits_from (first + 1) ports)) mine ∙
    (ap (λ v. bits_in_port first p ++ v) others ∙ (append-nil (bits_in_port first p)
    ∙ (ap (λ n. bits_in_port n p) number ∙ ap (λ v. bits_in_port k v) same))))
bits_kept k first (suc m) (p ∷ ports) port here at =
    let none : filter (is_of k) (bits_in_port first p)
    ≡ [] = filter_none (is_of k) (bits_in_port first p)
    (λ bit h. ne_eqb bit.port k
    (λ e. absurd (omega (arith, (is_of_port first p bit h).numbered)))) in
    filter-append (is_of k) (bits_in_port first p) (bits_from (first + 1) ports) ∙
    (ap (λ v. v ++ filter (is_of k) (bits_from (first + 1) ports)) none
    ∙ bits_kept k (first + 1) m ports port (omega arith) at)

-- the numbers do not decrease, and the first of them is at least `low`
abbrev Rises : ℕ → List ℕ → Type 0
Rises low [] = Unit {0}
Rises low (x ∷ xs) = (low ≤ x) × Rises x xs

lower : (low : ℕ) (high : ℕ) (xs : List ℕ) → low ≤ high → Rises high xs → Rises low xs
lower low high [] le h = tt
lower low high (x ∷ xs) le h = (omega (arith, h.0), h.1)

all_above : (low : ℕ) (xs : List ℕ) → Rises low xs → All (λ x. low ≤ x) xs
all_above low [] h = All-nil (λ x. low ≤ x)
all_above low (x ∷ xs) h = All-cons (λ v. low ≤ v) x xs h.0 (all_above low xs (lower low x xs h.0 h.1))

rises : (low : ℕ) (xs : List ℕ) → Rises low xs → IsNonDecreasing xs
rises low [] h i j d le within = absurd (omega arith)
rises low (x ∷ xs) h zero zero d le within = omega arith
rises low (x ∷ xs) h zero (suc j) d le within = all_above x xs h.1 j d (omega arith)
rises low (x ∷ xs) h (suc i) zero d le within = absurd (omega arith)
rises low (x ∷ xs) h (suc i) (suc j) d le within = rises x xs h.1 i j d (omega arith) (omega arith)

rises_along : (number : ℕ) (port : Port) (place : ℕ) (ixs : List (Option ℕ)) (rest : List Bit)
    → Rises number (map (λ bit. bit.port) rest)
    → Rises number (map (λ bit. bit.port) (bits_along number port place ixs ++ rest))
rises_along number port place [] rest h = h
rises_along number port place (ix ∷ ixs) rest h = (omega arith, rises_along number port (place + 1) ixs rest h)

rises_from : (first : ℕ) (ports : List Port) → Rises first (map (λ bit. bit.port) (bits_from first ports))
rises_from first [] = tt
rises_from first (port ∷ ports) =
    rises_along first port 0 (indexes port.range) (bits_from (first + 1) ports)
    (lower first (first + 1) (map (λ bit. bit.port) (bits_from (first + 1) ports)) (omega arith)
    (rises_from (first + 1) ports))

module _ (entries : List MapEntry) (taps : TapPorts) (compliance : Option Compliance) where
  ports_kept : (bits : List Bit) → map (λ bit. bit.port) (map (port_bit entries taps compliance) bits) ≡ map (λ bit. bit.port) bits
  ports_kept [] = refl
  ports_kept (bit ∷ bits) = ap (λ v. bit.port ∷ v) (ports_kept bits)

  indexes_back : (number : ℕ) (port : Port) (place : ℕ) (ixs : List (Option ℕ))
      → map (λ bit. bit.index)
      (map (port_bit entries taps compliance) (bits_along number port place ixs)) ≡ ixs
  indexes_back number port place [] = refl
  indexes_back number port place (ix ∷ ixs) = ap (λ v. ix ∷ v) (indexes_back number port (place + 1) ixs)

  indexed : (number : ℕ) (port : Port) → AreIndexed (map (port_bit entries taps compliance) (bits_in_port number port))
  indexed number port = by_range port.range (indexes_back number port 0 (indexes port.range))
    where
      by_range : (range : Option Range)
          → map (λ bit. bit.index)
          (map (port_bit entries taps compliance) (bits_in_port number port)) ≡ indexes range
          → AreIndexed (map (port_bit entries taps compliance) (bits_in_port number port))
      by_range None e = inl e
      by_range (Some range) e = inr (range.left, range.right, e)

  kept_bits : (ports : List Port) (k : ℕ) (port : Port) → slice_get ports k ≡ Some port
      → filter (λ bit. bit.port == k) (map (port_bit entries taps compliance) (all_port_bits ports))
      ≡ map (port_bit entries taps compliance) (bits_in_port k port)
  kept_bits ports k port at =
      filter_made (port_bit entries taps compliance) (λ bit. bit.port == k) (is_of k) (λ bit. refl)
      (all_port_bits ports)
      ∙ ap (map (port_bit entries taps compliance))
      (bits_kept k 0 k ports port (omega arith) at)

  mode_of : (k : ℕ) (port : Port) (bit : PortBit)
      → Has (map (port_bit entries taps compliance) (bits_in_port k port)) bit
      → bit.mode ≡ port.mode
  mode_of k port bit h =
      let r = map_has (port_bit entries taps compliance) (bits_in_port k port) bit h in
      sym (ap (λ (b : PortBit). b.mode) r.2) ∙ (is_of_port k port r.0 r.1).of_mode

of_port_has : (k first m : ℕ) (ports : List Port) (port : Port) → k ≡ first + m
    → slice_get ports m ≡ Some port → (bit : Bit) → Has (bits_in_port k port) bit
    → Has (bits_from first ports) bit
of_port_has k first m ports port here at bit h =
    (filter_has (is_of k) (bits_from first ports) bit
    (let P : List Bit → Type 0 = λ v. Has v bit in
    subst P (sym (bits_kept k first m ports port here at)) h)).0

mapped_of : (ports : List Port) (entries : List MapEntry) (taps : TapPorts)
    (compliance : Option Compliance) → PortsStand ports → v4 ports entries ≡ None
    → (k : ℕ) (port : Port) → slice_get ports k ≡ Some port
    → (bit : PortBit) → Has (map (port_bit entries taps compliance) (bits_in_port k port)) bit
    → is_some bit.pin ≡ is_some (find (maps_port port.name) entries)
mapped_of ports entries taps compliance stand e k port at bit h =
    let r = map_has (port_bit entries taps compliance) (bits_in_port k port) bit h in
    let named : r.0.name ≡ port.name = (is_of_port k port r.0 r.1).named in
    sym (ap (λ (b : PortBit). is_some b.pin) r.2)
    ∙ (is_mapped ports entries stand e r.0
    (of_port_has k 0 k ports port (omega arith) at r.0 r.1)
    ∙ ap (λ n. is_some (find (maps_port n) entries)) named)

are_port : (ports : List Port) (entries : List MapEntry) (taps : TapPorts)
    (compliance : Option Compliance) → PortsStand ports → v4 ports entries ≡ None
    → (k : ℕ) (port : Port) → slice_get ports k ≡ Some port
    → ArePort (map (port_bit entries taps compliance) (bits_in_port k port))
are_port ports entries taps compliance stand e k port at =
    let bits : List PortBit = map (port_bit entries taps compliance) (bits_in_port k port) in
    record {
      indexed = indexed entries taps compliance k port;
      one_mode =
          all_alike (λ (bit : PortBit). bit.mode) port.mode bits
          (all_from_has (λ (bit : PortBit). bit.mode ≡ port.mode) bits
          (mode_of entries taps compliance k port));
      mapped_whole = all_alike (λ (bit : PortBit). is_some bit.pin) (is_some (find (maps_port port.name) entries)) bits
          (all_from_has
          (λ (bit : PortBit). is_some bit.pin ≡ is_some (find (maps_port port.name) entries))
          bits (mapped_of ports entries taps compliance stand e k port at));
    }

names_differ : (ports : List Port) → PortsStand ports → AllPairs (λ a b. a ≢ b) (map (λ (port : Port). port.name) ports)
names_differ ports stand i j d less within same =
    let a = made_at (λ (port : Port). port.name) ports i
    (get_or (map (λ (port : Port). port.name) ports) i d)
    (slice_get-get_or (map (λ (port : Port). port.name) ports) i d (omega arith)) in
    let b = made_at (λ (port : Port). port.name) ports j
    (get_or (map (λ (port : Port). port.name) ports) j d)
    (slice_get-get_or (map (λ (port : Port). port.name) ports) j d within) in
    let one : i ≡ j = stand.once i j a.from b.from a.at b.at (a.gives ∙ (same ∙ sym b.gives)) in
    omega (arith, one)

of_ports : (ports : List Port) (entries : List MapEntry) (taps : TapPorts)
    (compliance : Option Compliance) (bit : PortBit)
    → Has (map (port_bit entries taps compliance) (all_port_bits ports)) bit
    → bit.port < length (map (λ (port : Port). port.name) ports)
of_ports ports entries taps compliance bit h =
    let r = map_has (port_bit entries taps compliance) (all_port_bits ports) bit h in
    let of : IsBitOf ports 0 r.0 = is_bit_of 0 ports r.0 r.1 in
    let number : r.0.port ≡ bit.port = ap (λ (b : PortBit). b.port) r.2 in
    let within : of.number < length ports = slice_get_within ports of.number of.port of.at in
    let many : length (map (λ (port : Port). port.name) ports) ≡ length ports = length-map ports (λ (port : Port). port.name) in
    omega (arith, of.numbered, number, within, many)

pub are_of_ports : (draft : Draft) → PortsStand draft.ports → v4 draft.ports draft.map ≡ None → AreOfPorts (raw_device draft)
unfolding raw_bits
are_of_ports draft stand e = record {
  ports_differ = names_differ draft.ports stand;
  in_order =
      rises 0 _
      (let P : List ℕ → Type 0 = Rises 0 in
      subst P
      (sym (ports_kept draft.map draft.taps draft.compliance (all_port_bits draft.ports)))
      (rises_from 0 draft.ports));
  of_ports =
      all_from_has
      (λ (bit : PortBit). bit.port < length (map (λ (port : Port). port.name) draft.ports)) _
      (of_ports draft.ports draft.map draft.taps draft.compliance);
  each_port = λ k within. at_port k (port_at draft.ports k within);
}
  where
    port_at : (ports : List Port) (k : ℕ) → k < length (map (λ (port : Port). port.name) ports)
        → (port : Port) × (slice_get ports k ≡ Some port)
    port_at [] k within = absurd (omega arith)
    port_at (p ∷ ps) zero within = (p, refl)
    port_at (p ∷ ps) (suc k) within = port_at ps k (omega arith)

    at_port : (k : ℕ) → ((port : Port) × (slice_get draft.ports k ≡ Some port))
        → ArePort
        (filter (λ bit. bit.port == k)
        (map (port_bit draft.map draft.taps draft.compliance) (all_port_bits draft.ports)))
    at_port k (port, at) =
        let P : List PortBit → Type 0 = ArePort in
        subst P (sym (kept_bits draft.map draft.taps draft.compliance draft.ports k port at))
        (are_port draft.ports draft.map draft.taps draft.compliance stand e k port at)
