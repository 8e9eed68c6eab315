-- A pin with a place belongs to a described part. The place of a pin is the number of its part and
-- the number of its port bit. A part is described if it has a DEVICE line.
use Rattle.std.proofs.Common.{◌≡◌, ℕ, ◌+◌, Bool, true, false, cond, ◌&&◌, ◌||◌, List, [], ◌∷◌, Option, Some, None, refl, sym, ap, ◌∙◌}
use Rattle.std.specs.Prelude.{find, is_some, option_map}
use Rattle.std.specs.List.{list_any, position_from, cons_option}
use Rattle.std.proofs.lemmas.List.Folds.{list_any-append}
use Rattle.std.proofs.lemmas.Bool.{or_parts}
use Rattle.std.proofs.Math.Bool.{or-true}
use Rattle.first_places.specs.Places.{first_value}
use Rattle.board_defs.specs.declared.device.PortBit.{PortBit}
use Rattle.board_defs.specs.declared.board.Part.{Part}
use Rattle.board_defs.specs.declared.board.PartKind.{PartKind}
use Rattle.board_defs.specs.declared.board.PartKind.TheVariants.{Described, Bypass}
use Rattle.board_defs.specs.declared.board.PinAt.{PinAt}
use Rattle.board_files.specs.Names.{same_word}
use Rattle.board_lines.specs.NetWords.{Pin, same_pin, is_among}
use Rattle.board_lines.specs.ChainParts.{PinPlace, bit_places, with_place, part_places, places_from, pin_places, place_of_pin, name_if_described, described_names}

some_place : {A : Type 0} (p : A → Bool) (n : ℕ) (xs : List A) → is_some (position_from p n xs) ≡ list_any p xs
some_place p n [] = refl
some_place {A} p n (x ∷ xs) = by_test (p x) (some_place p (n + 1) xs)
  where
    by_test : (b : Bool) → is_some (position_from p (n + 1) xs) ≡ list_any p xs
        → is_some (cond b (Some n) (position_from p (n + 1) xs)) ≡ (b || list_any p xs)
    by_test true e = refl
    by_test false e = e

some_value : {K V : Type 0} (eq : K → K → Bool) (items : List (K × V)) (q : K)
    → is_some (first_value eq items q) ≡ list_any (λ i. eq i.0 q) items
some_value eq [] q = refl
some_value {K} {V} eq (item ∷ items) q = by_test (eq item.0 q) (some_value eq items q)
  where
    by_test : (b : Bool) → is_some (first_value eq items q) ≡ list_any (λ (i : K × V). eq i.0 q) items →
        is_some
        (option_map (λ (i : K × V). i.1)
        (cond b (Some item) (find (λ (i : K × V). eq i.0 q) items)))
        ≡ (b || list_any (λ (i : K × V). eq i.0 q) items)
    by_test true e = refl
    by_test false e = e

-- a part that does not have the name of the pin's part gives no place of the pin
none_in_bits : (part : ℕ) (name : List ℕ) (n : ℕ) (bits : List PortBit) (pin : Pin)
    → same_word name pin.0 ≡ false
    → list_any (λ (i : PinPlace). same_pin i.0 pin) (bit_places part name n bits) ≡ false
none_in_bits part name n [] pin e = refl
none_in_bits part name n (bit ∷ bits) pin e = by_pin bit.pin (none_in_bits part name (n + 1) bits pin e)
  where
    by_pin : (o : Option (List ℕ))
        → list_any (λ (i : PinPlace). same_pin i.0 pin) (bit_places part name (n + 1) bits) ≡ false
        → list_any (λ (i : PinPlace). same_pin i.0 pin)
        (with_place part name n o (bit_places part name (n + 1) bits)) ≡ false
    by_pin None rest = rest
    by_pin (Some p) rest =
        ap
        (λ b. (b && same_word p pin.1)
        || list_any (λ (i : PinPlace). same_pin i.0 pin) (bit_places part name (n + 1) bits)) e
        ∙ rest

none_placed : (n : ℕ) (parts : List Part) (pin : Pin)
    → list_any (λ name. same_word name pin.0) (described_names parts) ≡ false
    → list_any (λ (i : PinPlace). same_pin i.0 pin) (places_from n parts) ≡ false
none_placed n [] pin e = refl
none_placed n (part ∷ parts) pin e =
    list_any-append (λ (i : PinPlace). same_pin i.0 pin) (part_places n part.name part.kind)
    (places_from (n + 1) parts) ∙ by_kind part.kind (none_placed (n + 1) parts pin) e
  where
    by_kind : (kind : PartKind)
        → (list_any (λ name. same_word name pin.0) (described_names parts) ≡ false
        → list_any (λ (i : PinPlace). same_pin i.0 pin) (places_from (n + 1) parts) ≡ false) →
        list_any (λ name. same_word name pin.0) (cons_option (name_if_described part.name kind) (described_names parts)) ≡ false →
        (list_any (λ (i : PinPlace). same_pin i.0 pin) (part_places n part.name kind)
        || list_any (λ (i : PinPlace). same_pin i.0 pin) (places_from (n + 1) parts)) ≡ false
    by_kind (Bypass bits) rest k = rest k
    by_kind (Described device) rest k =
        let both = or_parts (same_word part.name pin.0) (list_any (λ name. same_word name pin.0) (described_names parts)) k in
        ap (λ b. b || list_any (λ (i : PinPlace). same_pin i.0 pin) (places_from (n + 1) parts))
        (none_in_bits n part.name 0 device.bits pin both.0) ∙ rest both.1

placed_known : (parts : List Part) (pin : Pin)
    → (is_some (place_of_pin (pin_places parts) pin) || is_among (described_names parts) pin.0)
    ≡ is_among (described_names parts) pin.0
placed_known parts pin = by_test (is_among (described_names parts) pin.0) refl
  where
    by_test : (b : Bool) → is_among (described_names parts) pin.0 ≡ b → (is_some (place_of_pin (pin_places parts) pin) || b) ≡ b
    by_test true e = or-true (is_some (place_of_pin (pin_places parts) pin))
    by_test false e =
        ap (λ b. b || false)
        (some_value same_pin (pin_places parts) pin
        ∙ none_placed 0 parts pin
        (sym (some_place (λ name. same_word name pin.0) 0 (described_names parts)) ∙ e))

-- The Rust function first tests whether the pin has a place. If the pin has one, its part is
-- described, so the function need not look up the name of the part.
pub known_same : (parts : List Part) (pin : Pin) (d : Bool) (a : Option PinAt)
    → d ≡ is_among (described_names parts) pin.0 → a ≡ place_of_pin (pin_places parts) pin
    → (is_some a || d) ≡ is_among (described_names parts) pin.0
known_same parts pin d a ed ea =
    ap (λ (v : Option PinAt). is_some v || d) ea
    ∙ ap (λ b. is_some (place_of_pin (pin_places parts) pin) || b) ed ∙ placed_known parts pin
