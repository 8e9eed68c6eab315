-- Lemmas about the pins that a loop has seen.
use Rattle.std.proofs.Common.{◌≡◌, ℕ, ◌+◌, ◌<◌, Bool, true, false, ◌||◌, not, cond, List, [], ◌∷◌, ◌++◌, length, take, drop, get_or, refl, sym, ap, ◌∙◌, append_assoc}
use Rattle.std.specs.List.{list_any}
use Rattle.std.specs.Str.{bytes_eq}
use Rattle.std.proofs.lemmas.List.{drop_more, take_more, flat_map_more}
use Rattle.std.proofs.lemmas.List.Folds.{list_any-append, list_any_more}
use Rattle.bsdl_strings.specs.declared.values.MapEntry.{MapEntry}
use Rattle.device_rules.specs.Taps.{is_named_among}
use Rattle.device_rules.proofs.NameLemmas.{bytes_turned}
use Rattle.bsdl_parser.specs.declared.entity.Port.{Port}
use Rattle.device_rules.specs.Ports.{port_of}
use Rattle.device_rules.specs.PinMap.{maps_port, has_width, some_repeats, mapped_pins, breaks_map}

pub repeats_hit : (before pins : List (List ℕ)) (i : ℕ) (pin : List ℕ) → i < length pins
    → get_or pins i pin ≡ pin → is_named_among (before ++ take i pins) pin ≡ true
    → some_repeats (before ++ take i pins) (drop i pins) ≡ true
repeats_hit before pins i pin less is e =
    let cut : drop i pins ≡ pin ∷ drop (i + 1) pins = drop_more pins i pin less ∙ ap (λ x. x ∷ drop (i + 1) pins) is in
    ap (some_repeats (before ++ take i pins)) cut ∙ ap (λ b. b || some_repeats ((before ++ take i pins) ++ pin ∷ []) (drop (i + 1) pins)) e

front_more : (before pins : List (List ℕ)) (i : ℕ) (pin : List ℕ) → i < length pins
    → get_or pins i pin ≡ pin → (before ++ take i pins) ++ pin ∷ [] ≡ before ++ take (i + 1) pins
front_more before pins i pin less is =
    append_assoc before (take i pins) (pin ∷ [])
    ∙ ap (λ xs. before ++ xs)
    (ap (λ x. take i pins ++ x ∷ []) (sym is) ∙ sym (take_more pins i pin less))

pub repeats_step : (before pins : List (List ℕ)) (i : ℕ) (pin : List ℕ) → i < length pins
    → get_or pins i pin ≡ pin → is_named_among (before ++ take i pins) pin ≡ false
    → some_repeats (before ++ take i pins) (drop i pins) ≡ some_repeats (before ++ take (i + 1) pins) (drop (i + 1) pins)
repeats_step before pins i pin less is e =
    let cut : drop i pins ≡ pin ∷ drop (i + 1) pins = drop_more pins i pin less ∙ ap (λ x. x ∷ drop (i + 1) pins) is in
    ap (some_repeats (before ++ take i pins)) cut ∙ ap (λ b. b || some_repeats ((before ++ take i pins) ++ pin ∷ []) (drop (i + 1) pins)) e
    ∙ ap (λ xs. some_repeats xs (drop (i + 1) pins)) (front_more before pins i pin less is)

pub among_more : (before pins : List (List ℕ)) (i : ℕ) (pin q : List ℕ) → i < length pins
    → get_or pins i pin ≡ pin
    → is_named_among (before ++ take (i + 1) pins) q
    ≡ (is_named_among (before ++ take i pins) q || (bytes_eq pin q || false))
among_more before pins i pin q less is =
    ap (λ xs. is_named_among xs q) (sym (front_more before pins i pin less is))
    ∙ list_any-append (bytes_eq q) (before ++ take i pins) (pin ∷ [])
    ∙ ap (λ b. is_named_among (before ++ take i pins) q || (b || false)) (bytes_turned q pin)

pub pins_more : (entries : List MapEntry) (i : ℕ) (entry : MapEntry) → i < length entries
    → get_or entries i entry ≡ entry
    → mapped_pins (take i entries) ++ entry.pins ≡ mapped_pins (take (i + 1) entries)
pins_more entries i entry less is =
    flat_map_more (λ entry. entry.pins) [] (take i entries) entry
    ∙ ap mapped_pins
    (ap (λ x. take i entries ++ x ∷ []) (sym is) ∙ sym (take_more entries i entry less))

pub breaks_is : (ports : List Port) (before : List MapEntry) (entry : MapEntry) (name : List ℕ)
    (pins : List (List ℕ)) (known fits repeats breaks : Bool) → name ≡ entry.port
    → pins ≡ entry.pins
    → known ≡ list_any (maps_port name) before
    → fits ≡ has_width (port_of ports entry.port) (length entry.pins)
    → repeats ≡ some_repeats (mapped_pins before) pins
    → breaks ≡ (known || (not fits || repeats)) → breaks_map ports before entry ≡ breaks
breaks_is ports before entry name pins known fits repeats breaks same lent e f g is = sym (is
    ∙ ap (λ b. b || (not fits || repeats)) (e ∙ ap (λ n. list_any (maps_port n) before) same)
    ∙ ap (λ b. list_any (maps_port entry.port) before || (not b || repeats)) f
    ∙ ap
    (λ b. list_any (maps_port entry.port) before ||
    (not (has_width (port_of ports entry.port) (length entry.pins)) || b))
    (g ∙ ap (some_repeats (mapped_pins before)) lent))

pub one_more : (b c : Bool) → cond b true c ≡ (c || b)
one_more true true = refl
one_more true false = refl
one_more false true = refl
one_more false false = refl

-- One step of a loop over the entries. `old` says whether an entry before entry `i` names port `q`, and `new` says
-- whether entry `i` or one before it does.
pub known_more : (entries : List MapEntry) (i : ℕ) (entry : MapEntry) (name q : List ℕ)
    (new old : Bool) → i < length entries → get_or entries i entry ≡ entry → name ≡ entry.port
    → new ≡ cond (bytes_eq name q) true old
    → old ≡ list_any (maps_port q) (take i entries) → new ≡ list_any (maps_port q) (take (i + 1) entries)
known_more entries i entry name q new old less is same e f =
    e ∙ one_more (bytes_eq name q) old ∙ ap (λ b. b || bytes_eq name q) f
    ∙ ap (λ n. list_any (maps_port q) (take i entries) || bytes_eq n q) same
    ∙ ap (λ x. list_any (maps_port q) (take i entries) || maps_port q x) (sym is) ∙ sym (list_any_more (maps_port q) entries i entry less)

-- `fresh` is the result of adding an item to a set: it says whether the item is new. `there` says whether the set had
-- the item before.
pub was_there : (fresh there : Bool) → fresh ≡ not there → fresh ≡ false → there ≡ true
was_there fresh true is old = refl
was_there fresh false is old = let clash : true ≡ false = sym is ∙ old in absurd (cc clash)

pub was_not_there : (fresh there : Bool) → fresh ≡ not there → fresh ≡ true → there ≡ false
was_not_there fresh true is new = let clash : true ≡ false = sym new ∙ is in absurd (cc clash)
was_not_there fresh false is new = refl
