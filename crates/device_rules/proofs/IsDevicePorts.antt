-- The ports of a text that keeps V2, and the bits of these ports.
use Rattle.std.proofs.Common.{◌≡◌, ℕ, suc, ◌+◌, ◌≤◌, true, false, not, List, [], ◌∷◌, ◌++◌, length, Option, Some, None, refl, sym, ◌∙◌, ap, subst, arith, ◌⊎◌, inl, inr, length-append}
use Rattle.std.specs.Prelude.{slice_get, nat_lt}
use Rattle.std.specs.List.{list_any}
use Rattle.std.proofs.lemmas.Bool.{or_parts, not-false, ltb-false}
use Rattle.std.proofs.lemmas.List.Sums.{sum_by-cons, sum_by_push}
use Rattle.board_defs.specs.Limits.{most_bits}
use Rattle.lists.proofs.Booleans.{clash}
use Rattle.board_defs.proofs.Members.{Has, has_at, has_place, has_append}
use Rattle.bsdl_parser.specs.declared.entity.Port.{Port}
use Rattle.first_places.specs.Items.{KeepsRule}
use Rattle.device_rules.specs.Ports.{range_in_order, width, bit_total, port_named, breaks_port, v2, Bit, indexes, bits_along, bits_in_port, bits_from, all_port_bits}
use Rattle.device_rules.proofs.RuleLemmas.{holds}
use Rattle.device_rules.proofs.BitLemmas.{length_bits}
use Rattle.device_rules.proofs.IsDeviceLists.{name_same, earlier, holds_at, none_has, Once, once_nil, once_cons, once_tail, once_head, once_append, once_by_order}

-- what V2 says about the ports: no two have the same name, their ranges are in order, and together
-- they have at most 65,535 bits
pub record PortsStand (ports : List Port) : Type 0 where
  pub once : Once (λ port. port.name) ports
  pub ordered : (port : Port) → Has ports port → range_in_order port.range ≡ true
  pub few : bit_total ports ≤ most_bits

record KeptPort (before : List Port) (port : Port) : Type 0 where
  new : list_any (port_named port.name) before ≡ false
  ordered : range_in_order port.range ≡ true
  few : bit_total before + width port.range ≤ most_bits

kept_port : (before : List Port) (port : Port) → breaks_port before port ≡ false → KeptPort before port
kept_port before port e =
    let a = or_parts (list_any (port_named port.name) before) _ e in
    let b = or_parts (not (range_in_order port.range)) (nat_lt most_bits (bit_total before + width port.range)) a.1 in
    record {
      new = a.0;
      ordered = not-false (range_in_order port.range) b.0;
      few = ltb-false most_bits
          (bit_total before + width port.range) b.1;
    }

-- the list has a last item, and `front` is the list of the items before it
record EndsIn {X : Type 0} (xs : List X) : Type 0 where
  front : List X
  last : X
  split : xs ≡ front ++ last ∷ []

ends_in : {X : Type 0} (x : X) (xs : List X) → EndsIn (x ∷ xs)
ends_in x [] = record { front = []; last = x; split = refl }
ends_in x (y ∷ ys) = let r = ends_in y ys in record { front = x ∷ r.front; last = r.last; split = ap (λ v. x ∷ v) r.split }

few_bits : (ports : List Port) → KeepsRule breaks_port ports → bit_total ports ≤ most_bits
few_bits [] h = omega arith
few_bits (port ∷ ports) h =
    let r : EndsIn (port ∷ ports) = ends_in port ports in
    let kept : bit_total r.front + width r.last.range ≤ most_bits = (kept_port r.front r.last (h r.front r.last [] r.split)).few in
    let sum : bit_total (r.front ++ r.last ∷ [])
    ≡ bit_total r.front + width r.last.range = sum_by_push (λ (p : Port). width p.range) r.front
    r.last in
    let all : bit_total (port ∷ ports) ≡ bit_total (r.front ++ r.last ∷ []) = ap bit_total r.split in
    omega (arith, kept, sum, all)

pub ports_stand : (ports : List Port) → v2 ports ≡ None → PortsStand ports
unfolding v2
ports_stand ports e =
    let h : KeepsRule breaks_port ports = holds breaks_port ports e in
    record {
      once = once_by_order (λ port. port.name) ports (λ i j x y less ex ey same.
          clash _ (name_same x.name y.name same)
          (none_has (port_named y.name) _ x
          (kept_port _ y (holds_at breaks_port ports h j y ey)).new
          (earlier ports i j x less ex)));
      ordered = λ port has. let r = has_place ports port has in (kept_port _ port (holds_at breaks_port ports h r.0 port r.1)).ordered;
      few = few_bits ports h;
    }

length_all : (number : ℕ) (ports : List Port)
    → ((port : Port) → Has ports port → range_in_order port.range ≡ true)
    → length (bits_from number ports) ≡ bit_total ports
length_all number [] h = refl
length_all number (port ∷ ports) h =
    let here : length (bits_in_port number port) ≡ width port.range = length_bits number port (h port (inl refl)) in
    let rest : length (bits_from (number + 1) ports) ≡ bit_total ports = length_all (number + 1) ports (λ p k. h p (inr k)) in
    let all : length (bits_in_port number port ++ bits_from (number + 1) ports)
    ≡ length (bits_in_port number port) + length (bits_from (number + 1) ports) = length-append
    (bits_in_port number port) (bits_from (number + 1) ports) in
    let sum : bit_total (port ∷ ports) ≡ width port.range + bit_total ports = sum_by-cons (λ (p : Port). width p.range) port ports in
    omega (arith, here, rest, all, sum)

pub bits_few : (ports : List Port) → PortsStand ports → length (all_port_bits ports) ≤ most_bits
bits_few ports stand =
    let all : length (all_port_bits ports) ≡ bit_total ports = length_all 0 ports stand.ordered in
    omega (arith, all, stand.few)

-- the bit belongs to one of these ports, which are numbered from `first` on
pub record IsBitOf (ports : List Port) (first : ℕ) (bit : Bit) : Type 0 where
  pub number : ℕ
  pub port : Port
  pub at : slice_get ports number ≡ Some port
  pub numbered : bit.port ≡ first + number
  pub named : bit.name ≡ port.name
  pub of_mode : bit.mode ≡ port.mode
  pub indexed : slice_get (indexes port.range) bit.place ≡ Some bit.index

pub record IsAlong (number : ℕ) (port : Port) (place : ℕ) (ixs : List (Option ℕ)) (bit : Bit) : Type 0 where
  pub step : ℕ
  pub placed : bit.place ≡ place + step
  pub numbered : bit.port ≡ number
  pub named : bit.name ≡ port.name
  pub of_mode : bit.mode ≡ port.mode
  pub indexed : slice_get ixs step ≡ Some bit.index

pub is_along : (number : ℕ) (port : Port) (place : ℕ) (ixs : List (Option ℕ)) (bit : Bit)
    → Has (bits_along number port place ixs) bit → IsAlong number port place ixs bit
is_along number port place [] bit h = absurd h
is_along number port place (ix ∷ ixs) bit (inl e) = record {
  step = 0;
  placed = sym (ap (λ (b : Bit). b.place) e) ∙ (omega arith);
  numbered = sym (ap (λ (b : Bit). b.port) e);
  named = sym (ap (λ (b : Bit). b.name) e);
  of_mode = sym (ap (λ (b : Bit). b.mode) e);
  indexed = ap (λ (b : Bit). Some b.index) e;
}
is_along number port place (ix ∷ ixs) bit (inr h) =
    let r : IsAlong number port (place + 1) ixs bit = is_along number port (place + 1) ixs bit h in
    record {
      step = suc r.step;
      placed = omega (arith, r.placed);
      numbered = r.numbered;
      named =
          r.named;
      of_mode = r.of_mode;
      indexed = r.indexed;
    }

-- the bit belongs to this port, which has the number `number`
pub record IsOfPort (number : ℕ) (port : Port) (bit : Bit) : Type 0 where
  pub numbered : bit.port ≡ number
  pub named : bit.name ≡ port.name
  pub of_mode : bit.mode ≡ port.mode
  pub indexed : slice_get (indexes port.range) bit.place ≡ Some bit.index

pub is_of_port : (number : ℕ) (port : Port) (bit : Bit) → Has (bits_in_port number port) bit → IsOfPort number port bit
is_of_port number port bit h =
    let r : IsAlong number port 0 (indexes port.range) bit = is_along number port 0 (indexes port.range) bit h in
    let same : r.step ≡ bit.place = omega (arith, r.placed) in
    record {
      numbered = r.numbered;
      named = r.named;
      of_mode = r.of_mode;
      indexed = subst
          (λ k. slice_get (indexes port.range) k ≡ Some bit.index) same r.indexed;
    }

pub is_bit_of : (first : ℕ) (ports : List Port) (bit : Bit) → Has (bits_from first ports) bit → IsBitOf ports first bit
is_bit_of first [] bit h = absurd h
is_bit_of first (port ∷ ports) bit h =
    by_part (is_bit_of (first + 1) ports bit)
    (has_append (bits_in_port first port) (bits_from (first + 1) ports) bit h)
  where
    by_part : (Has (bits_from (first + 1) ports) bit → IsBitOf ports (first + 1) bit)
        → Has (bits_in_port first port) bit ⊎ Has (bits_from (first + 1) ports) bit
        → IsBitOf (port ∷ ports) first bit
    by_part rest (inl k) =
        let r : IsOfPort first port bit = is_of_port first port bit k in
        record {
          number = 0;
          port = port;
          at = refl;
          numbered = r.numbered
              ∙ (omega arith);
          named = r.named;
          of_mode = r.of_mode;
          indexed = r.indexed;
        }
    by_part rest (inr k) =
        let r : IsBitOf ports (first + 1) bit = rest k in
        record {
          number = suc r.number;
          port = r.port;
          at = r.at;
          numbered = omega (arith, r.numbered);
          named = r.named;
          of_mode = r.of_mode;
          indexed = r.indexed;
        }

-- the name of a bit's port and the bit's place in the port, which together determine the bit
abbrev pub spot : Bit → List ℕ × ℕ
spot bit = (bit.name, bit.place)

spots_along : (number : ℕ) (port : Port) (place : ℕ) (ixs : List (Option ℕ)) → Once spot (bits_along number port place ixs)
spots_along number port place [] = once_nil spot
spots_along number port place (ix ∷ ixs) =
    once_cons spot _ (bits_along number port (place + 1) ixs) (spots_along number port (place + 1) ixs) (λ bit h e.
    let r : IsAlong number port (place + 1) ixs bit = is_along number port (place + 1) ixs bit h in
    let same : place ≡ bit.place = ap (λ (s : List ℕ × ℕ). s.1) e in
    absurd (omega (arith, r.placed, same)))

spots_from : (first : ℕ) (ports : List Port) → Once (λ port. port.name) ports → Once spot (bits_from first ports)
spots_from first [] once = once_nil spot
spots_from first (port ∷ ports) once =
    once_append spot (bits_in_port first port) (bits_from (first + 1) ports)
    (spots_along first port 0 (indexes port.range))
    (spots_from (first + 1) ports (once_tail (λ p. p.name) port ports once)) (λ x y hx hy e.
    let a = is_of_port first port x hx in
    let b = is_bit_of (first + 1) ports y hy in
    let same : port.name ≡ b.port.name = sym a.named ∙ (ap (λ (s : List ℕ × ℕ). s.0) e ∙ b.named) in
    once_head (λ p. p.name) port ports b.port once (has_at ports b.number b.port b.at) same)

pub spots_once : (ports : List Port) → PortsStand ports → Once spot (all_port_bits ports)
spots_once ports stand = spots_from 0 ports stand.once
