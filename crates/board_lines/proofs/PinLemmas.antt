-- Lemmas about the look-up of a pin's place, first by the name of the pin's part and then by the
-- pin's own name.
use Rattle.std.proofs.Common.{◌≡◌, ◌≢◌, ℕ, suc, ◌+◌, ◌-◌, ◌<◌, ◌≤◌, Bool, true, false, cond, ◌&&◌, List, [], ◌∷◌, ◌++◌, length, map, drop, take, get_or, Option, Some, None, refl, sym, ap, subst, ◌∙◌, arith}
use Rattle.std.specs.Prelude.{find, slice_get, option_map, option_and_then, AllPairs}
use Rattle.std.specs.Option.{option_or}
use Rattle.std.specs.List.{AllByRecursion, position_from}
use Rattle.std.specs.Cmp.Lexicographic.{same_text}
use Rattle.std.proofs.lemmas.List.{drop_more, take_more}
use Rattle.std.proofs.lemmas.List.Folds.{find-append}
use Rattle.std.proofs.lemmas.Option.{slice_get-map}
use Rattle.lists.proofs.ListLemmas.{position_from-map}
use Rattle.first_places.specs.Places.{first_place, first_value}
use Rattle.board_files.specs.Names.{same_word}
use Rattle.board_defs.specs.declared.device.PortBit.{PortBit}
use Rattle.board_defs.specs.declared.board.Part.{Part}
use Rattle.board_defs.specs.declared.board.PartKind.{PartKind}
use Rattle.board_defs.specs.declared.board.PartKind.TheVariants.{Described, Bypass}
use Rattle.board_defs.specs.declared.board.PinAt.{PinAt}
use Rattle.board_lines.specs.NetWords.{Pin, same_pin}
use Rattle.board_lines.specs.ChainParts.{PinPlace, bit_places, with_place, part_places, places_from, pin_places, place_of_pin}
use Rattle.board_lines.specs.PinRows.{ArePinRows, bit_of_pin, has_pin_named, pins_of_part, pins_of_bits, place_by_part, row_at}

-- the place of port bit `bit` of part `part`, if there is a bit
abbrev bit_in_part : ℕ → Option ℕ → Option PinAt
bit_in_part part bit = option_map (λ b. record { part = part; bit = b }) bit

value_append : {K V : Type 0} (eq : K → K → Bool) (xs ys : List (K × V)) (q : K)
    → first_value eq (xs ++ ys) q ≡ option_or (first_value eq xs q) (first_value eq ys q)
value_append {K} {V} eq xs ys q =
    ap (option_map (λ (i : K × V). i.1)) (find-append (λ (i : K × V). eq i.0 q) xs ys)
    ∙ by_case (find (λ (i : K × V). eq i.0 q) xs)
  where
    by_case : (o : Option (K × V))
        → option_map (λ (i : K × V). i.1) (option_or o (find (λ (i : K × V). eq i.0 q) ys))
        ≡ option_or (option_map (λ (i : K × V). i.1) o) (first_value eq ys q)
    by_case None = refl
    by_case (Some i) = refl

-- If the name of part `part` is not `pin.0`, the name of the pin's part, then the list of the part's pins has no place for the pin.
bits_other : (part : ℕ) (name : List ℕ) (n : ℕ) (bits : List PortBit) (pin : Pin)
    → same_word name pin.0 ≡ false → first_value same_pin (bit_places part name n bits) pin ≡ None
bits_other part name n [] pin other = refl
bits_other part name n (bit ∷ bits) pin other = by_pin bit.pin (bits_other part name (n + 1) bits pin other)
  where
    by_pin : (o : Option (List ℕ))
        → first_value same_pin (bit_places part name (n + 1) bits) pin ≡ None
        → first_value same_pin (with_place part name n o (bit_places part name (n + 1) bits)) pin
        ≡ None
    by_pin None rest = rest
    by_pin (Some p) rest =
        ap
        (λ b. option_map (λ (i : PinPlace). i.1)
        (cond (b && same_word p pin.1) (Some ((name, p), record { part = part; bit = n }))
        (find (λ (i : PinPlace). same_pin i.0 pin) (bit_places part name (n + 1) bits)))) other
        ∙ rest

-- if a part has the name of the pin's part, the pin's place is the part's first port bit with the
-- pin's own name, or None if the part has no such bit
bits_same : (part : ℕ) (name : List ℕ) (n : ℕ) (bits : List PortBit) (pin : Pin)
    → same_word name pin.0 ≡ true
    → first_value same_pin (bit_places part name n bits) pin
    ≡ bit_in_part part (position_from (has_pin_named pin.1) n (pins_of_bits bits))
bits_same part name n [] pin same = refl
bits_same part name n (bit ∷ bits) pin same = by_pin bit.pin (bits_same part name (n + 1) bits pin same)
  where
    by_pin : (o : Option (List ℕ))
        → first_value same_pin (bit_places part name (n + 1) bits) pin
        ≡ bit_in_part part (position_from (has_pin_named pin.1) (n + 1) (pins_of_bits bits)) →
        first_value same_pin (with_place part name n o (bit_places part name (n + 1) bits)) pin
        ≡ bit_in_part part
        (cond (has_pin_named pin.1 o) (Some n)
        (position_from (has_pin_named pin.1) (n + 1) (pins_of_bits bits)))
    by_pin None rest = rest
    by_pin (Some p) rest =
        ap
        (λ b. option_map (λ (i : PinPlace). i.1)
        (cond (b && same_word p pin.1) (Some ((name, p), record { part = part; bit = n }))
        (find (λ (i : PinPlace). same_pin i.0 pin) (bit_places part name (n + 1) bits)))) same
        ∙ by_name (same_word p pin.1)
      where
        by_name : (b : Bool)
            → option_map (λ (i : PinPlace). i.1)
            (cond b (Some ((name, p), record { part = part; bit = n }))
            (find (λ (i : PinPlace). same_pin i.0 pin) (bit_places part name (n + 1) bits)))
            ≡ bit_in_part part
            (cond b (Some n) (position_from (has_pin_named pin.1) (n + 1) (pins_of_bits bits)))
        by_name true = refl
        by_name false = rest

part_other : (n : ℕ) (name : List ℕ) (kind : PartKind) (pin : Pin) → same_word name pin.0 ≡ false
    → first_value same_pin (part_places n name kind) pin ≡ None
part_other n name (Described device) pin other = bits_other n name 0 device.bits pin other
part_other n name (Bypass bits) pin other = refl

part_same : (n : ℕ) (name : List ℕ) (kind : PartKind) (pin : Pin) → same_word name pin.0 ≡ true
    → first_value same_pin (part_places n name kind) pin
    ≡ bit_in_part n (bit_of_pin (pins_of_part kind) pin.1)
part_same n name (Described device) pin same = bits_same n name 0 device.bits pin same
part_same n name (Bypass bits) pin same = refl

abbrev names : List Part → List (List ℕ)
names parts = map (λ part. part.name) parts

-- if no part of the list has the name of the pin's part, the parts give no place of the pin
parts_other : (n : ℕ) (parts : List Part) (pin : Pin)
    → AllByRecursion (λ name. same_word name pin.0 ≡ false) (names parts)
    → first_value same_pin (places_from n parts) pin ≡ None
parts_other n [] pin others = refl
parts_other n (part ∷ parts) pin others =
    value_append same_pin (part_places n part.name part.kind) (places_from (n + 1) parts) pin
    ∙ ap (λ o. option_or o (first_value same_pin (places_from (n + 1) parts) pin)) (part_other n part.name part.kind pin others.0)
    ∙ parts_other (n + 1) parts pin others.1

rest_differ : {X : Type 0} (R : X → X → Type 0) (x : X) (xs : List X) → AllPairs R (x ∷ xs) → AllPairs R xs
rest_differ R x xs h = λ i j d less within. h (suc i) (suc j) d (omega (arith, less)) (omega (arith, within))

not_same : (a b c : List ℕ) → same_word a c ≡ true → (a ≢ b) → (t : Bool) → same_word b c ≡ t → t ≡ false
not_same a b c same differ true other = absurd (differ (same_text a c (sym same) ∙ sym (same_text b c (sym other))))
not_same a b c same differ false other = refl

first_differs : (name : List ℕ) (others : List (List ℕ)) (q : List ℕ) → same_word name q ≡ true
    → ((j : ℕ) → j < length others → name ≢ get_or others j [])
    → AllByRecursion (λ other. same_word other q ≡ false) others
first_differs name [] q same differ = tt
first_differs name (other ∷ others) q same differ = (
  not_same name other q same (differ 0 (omega arith)) (same_word other q) refl,
  first_differs name others q same (λ j within. differ (suc j) (omega (arith, within))),
)

-- `k` is the number of a part of the list; the place of the pin is the first port bit of part `k`
-- with the pin's own name, or None if the part has no such bit
pub record Found (n : ℕ) (parts : List Part) (pin : Pin) (k : ℕ) : Type 0 where
  pub index : ℕ
  pub number : k ≡ n + index
  pub place : first_value same_pin (places_from n parts) pin
      ≡ bit_in_part k
      (option_and_then (λ part. bit_of_pin (pins_of_part part.kind) pin.1) (slice_get parts index))

found_none : (n m : ℕ) (parts : List Part) (pin : Pin)
    → position_from (λ name. same_word name pin.0) m (names parts) ≡ None
    → first_value same_pin (places_from n parts) pin ≡ None
found_none n m [] pin none = refl
found_none n m (part ∷ parts) pin none =
    let split = by_test (same_word part.name pin.0) refl none in
    value_append same_pin (part_places n part.name part.kind) (places_from (n + 1) parts) pin
    ∙ ap (λ o. option_or o (first_value same_pin (places_from (n + 1) parts) pin)) (part_other n part.name part.kind pin split.0)
    ∙ found_none (n + 1) (m + 1) parts pin split.1
  where
    by_test : (b : Bool) → same_word part.name pin.0 ≡ b
        → cond b (Some m) (position_from (λ name. same_word name pin.0) (m + 1) (names parts))
        ≡ None →
        (same_word part.name pin.0 ≡ false) × (position_from (λ name. same_word name pin.0) (m + 1) (names parts) ≡ None)
    by_test true e k = cc k
    by_test false e k = (e, k)

or_none : {A : Type 0} (a b : Option A) → b ≡ None → option_or a b ≡ a
or_none None b e = e
or_none (Some a) b e = refl

found_some : (n : ℕ) (parts : List Part) (pin : Pin) (k : ℕ) → AllPairs (λ a b. a ≢ b) (names parts)
    → position_from (λ name. same_word name pin.0) n (names parts) ≡ Some k → Found n parts pin k
found_some n [] pin k differ found = cc found
found_some n (part ∷ parts) pin k differ found =
    by_test
    (found_some (n + 1) parts pin k (rest_differ (λ a b. a ≢ b) part.name (names parts) differ))
    (same_word part.name pin.0) refl found
  where
    by_test :
        (position_from (λ name. same_word name pin.0) (n + 1) (names parts) ≡ Some k
        → Found (n + 1) parts pin k) → (b : Bool) → same_word part.name pin.0 ≡ b →
        cond b (Some n) (position_from (λ name. same_word name pin.0) (n + 1) (names parts)) ≡ Some k → Found n (part ∷ parts) pin k
    by_test rest true same here =
        let number : n ≡ k = cc here in
        let others = first_differs part.name (names parts) pin.0 same
        (λ j within. differ 0 (suc j) [] (omega arith) (omega (arith, within))) in
        record {
          index = 0;
          number = omega (arith, number);
          place =
              value_append same_pin (part_places n part.name part.kind) (places_from (n + 1) parts) pin
              ∙ or_none (first_value same_pin (part_places n part.name part.kind) pin)
              (first_value same_pin (places_from (n + 1) parts) pin)
              (parts_other (n + 1) parts pin others)
              ∙ part_same n part.name part.kind pin same
              ∙ ap (λ m. bit_in_part m (bit_of_pin (pins_of_part part.kind) pin.1)) number;
        }
    by_test rest false other later =
        let r = rest later in
        record {
          index = suc r.index;
          number = omega (arith, r.number);
          place =
              value_append same_pin (part_places n part.name part.kind) (places_from (n + 1) parts) pin
              ∙ ap (λ o. option_or o (first_value same_pin (places_from (n + 1) parts) pin)) (part_other n part.name part.kind pin other)
              ∙ r.place;
        }

row_of_part : (rows : List (List (Option (List ℕ)))) (numbers : List ℕ) (parts : List Part) (k : ℕ)
    → ArePinRows rows numbers parts
    → row_at rows numbers k ≡ option_map (λ part. pins_of_part part.kind) (slice_get parts k)
row_of_part rows numbers parts k are =
    joined (slice_get numbers k) (slice_get parts k)
    (sym (slice_get-map (λ number. slice_get rows number) numbers k) ∙ ap (λ v. slice_get v k) are
    ∙ slice_get-map (λ part. Some (pins_of_part part.kind)) parts k)
  where
    joined : (a : Option ℕ) (b : Option Part)
        → option_map (λ number. slice_get rows number) a
        ≡ option_map (λ part. Some (pins_of_part part.kind)) b
        → option_and_then (λ number. slice_get rows number) a
        ≡ option_map (λ part. pins_of_part part.kind) b
    joined None None e = refl
    joined None (Some part) e = cc e
    joined (Some number) None e = cc e
    joined (Some number) (Some part) e = ap (λ (o : Option (Option (List (Option (List ℕ))))). option_and_then (λ v. v) o) e

then_map : {A B C : Type 0} (f : A → B) (g : B → Option C) (o : Option A)
    → option_and_then g (option_map f o) ≡ option_and_then (λ a. g (f a)) o
then_map f g None = refl
then_map f g (Some a) = refl

-- if no two parts have the same name and the rows have the pins of the parts, a look-up in the row
-- of the pin's part gives the place of the pin
pub place_by_rows : (rows : List (List (Option (List ℕ)))) (numbers : List ℕ) (parts : List Part)
    (pin : Pin) → ArePinRows rows numbers parts → AllPairs (λ a b. a ≢ b) (names parts) →
    place_by_part rows numbers (first_place same_word (names parts) pin.0) pin.1 ≡ place_of_pin (pin_places parts) pin
place_by_rows rows numbers parts pin are differ = by_place (first_place same_word (names parts) pin.0) refl
  where
    by_place : (o : Option ℕ) → first_place same_word (names parts) pin.0 ≡ o
        → place_by_part rows numbers o pin.1 ≡ place_of_pin (pin_places parts) pin
    by_place None none = sym (found_none 0 0 parts pin none)
    by_place (Some k) some =
        let r = found_some 0 parts pin k differ some in
        let at : k ≡ r.index = omega (arith, r.number) in
        ap (λ o. bit_in_part k (option_and_then (λ row. bit_of_pin row pin.1) o)) (row_of_part rows numbers parts k are)
        ∙ ap (bit_in_part k) (then_map (λ part. pins_of_part part.kind) (λ row. bit_of_pin row pin.1) (slice_get parts k))
        ∙ ap (λ i. bit_in_part k (option_and_then (λ part. bit_of_pin (pins_of_part part.kind) pin.1) (slice_get parts i))) at
        ∙ sym r.place

-- one step of the loop over the parts: the old rows keep their numbers, and row `number` has the
-- pins of the next part
pub rows_more : (rows longer : List (List (Option (List ℕ)))) (numbers : List ℕ) (done : List Part)
    (number : ℕ) (part : Part) → ArePinRows rows numbers done →
    ((k : ℕ) (row : List (Option (List ℕ))) → slice_get rows k ≡ Some row
    → slice_get longer k ≡ Some row) → slice_get longer number ≡ Some (pins_of_part part.kind)
    → ArePinRows longer (numbers ++ number ∷ []) (done ++ part ∷ [])
rows_more rows longer [] [] number part are kept new = ap (λ o. o ∷ []) new
rows_more rows longer [] (p ∷ done) number part are kept new = cc are
rows_more rows longer (m ∷ numbers) [] number part are kept new = cc are
rows_more rows longer (m ∷ numbers) (p ∷ done) number part are kept new =
    let first : slice_get rows m ≡ Some (pins_of_part p.kind) = cc are in
    let rest : ArePinRows rows numbers done = cc are in
    let here = kept m (pins_of_part p.kind) first in
    ap (λ o. o ∷ map (λ number. slice_get longer number) (numbers ++ number ∷ [])) here
    ∙ ap (λ v. Some (pins_of_part p.kind) ∷ v)
    (rows_more rows longer numbers done number part rest kept new)

pub rows_step : (rows longer : List (List (Option (List ℕ)))) (numbers pushed : List ℕ)
    (parts : List Part) (i number : ℕ) (part : Part) → i < length parts → part ≡ get_or parts i part
    → ArePinRows rows numbers (take i parts) →
    ((k : ℕ) (row : List (Option (List ℕ))) → slice_get rows k ≡ Some row
    → slice_get longer k ≡ Some row) → slice_get longer number ≡ Some (pins_of_part part.kind)
    → pushed ≡ numbers ++ number ∷ [] → ArePinRows longer pushed (take (i + 1) parts)
rows_step rows longer numbers pushed parts i number part within read are kept new is =
    let P : List ℕ → Type 0 = λ v. ArePinRows longer v (take (i + 1) parts) in
    let Q : List Part → Type 0 = λ v. ArePinRows longer (numbers ++ number ∷ []) v in
    let cut : take (i + 1) parts
    ≡ take i parts
    ++ part ∷ [] = take_more parts i part within
    ∙ ap (λ p. take i parts ++ p ∷ []) (sym read) in
    subst P (sym is) (subst Q (sym cut) (rows_more rows longer numbers (take i parts) number part are kept new))

-- one step of the loop, which goes from the last bit to the first: the value for the pin of bit
-- `i - 1` becomes `i - 1`, and the values for other pins stay the same
pub bits_step : (bits : List PortBit) (i : ℕ) (default : PortBit) (name : List ℕ) (old new : Option ℕ) → 0 < i → i ≤ length bits →
    old ≡ position_from (λ (b : PortBit). has_pin_named name b.pin) i (drop i bits)
    → new ≡ cond (has_pin_named name (get_or bits (i - 1) default).pin) (Some (i - 1)) old →
    new ≡ position_from (λ (b : PortBit). has_pin_named name b.pin) (i - 1) (drop (i - 1) bits)
bits_step bits i default name old new some within was put =
    let bit = get_or bits (i - 1) default in
    let next : i - 1 + 1 ≡ i = omega arith in
    let cut : drop (i - 1) bits ≡ bit ∷ drop i bits = drop_more bits (i - 1) default (omega arith) ∙ ap (λ k. bit ∷ drop k bits) next in
    put
    ∙ ap (cond (has_pin_named name bit.pin) (Some (i - 1)))
    (was
    ∙ ap (λ k. position_from (λ (b : PortBit). has_pin_named name b.pin) k (drop i bits))
    (sym next))
    ∙ ap (position_from (λ (b : PortBit). has_pin_named name b.pin) (i - 1)) (sym cut)

-- a search that begins with bit 0 is a search in all bits
pub bits_all : (bits : List PortBit) (i : ℕ) (name : List ℕ) → i ≡ 0
    → position_from (λ (b : PortBit). has_pin_named name b.pin) i (drop i bits)
    ≡ bit_of_pin (pins_of_bits bits) name
bits_all bits i name e =
    ap (λ k. position_from (λ (b : PortBit). has_pin_named name b.pin) k (drop k bits)) e
    ∙ position_from-map (λ (b : PortBit). b.pin) (has_pin_named name) 0 bits
