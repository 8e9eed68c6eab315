-- If no two words have the same pin when pins are compared by their places, or by their names if
-- neither has a place, the words name different pins. The place of a pin is the number of its part
-- and the number of its port bit.
use Rattle.std.proofs.Common.{◌≡◌, ℕ, ◌≤◌, ◌==◌, Bool, true, false, cond, ◌&&◌, ◌||◌, List, [], ◌∷◌, ◌++◌, length, map, take, drop, Option, Some, None, refl, sym, ap, ◌∙◌}
use Rattle.std.specs.Prelude.{option_map}
use Rattle.std.specs.List.{list_any}
use Rattle.std.specs.Cmp.Lexicographic.{same_text}
use Rattle.std.proofs.lemmas.Bool.{and_parts}
use Rattle.std.proofs.lemmas.List.{drop_all}
use Rattle.lists.proofs.Booleans.{eqb_refl}
use Rattle.first_places.specs.Places.{first_repeated, repeated_from}
use Rattle.board_files.specs.declared.chain_file.ChainLine.{ChainLine}
use Rattle.board_files.specs.declared.net_file.NetLine.{NetLine}
use Rattle.board_files.specs.Names.{same_word}
use Rattle.board_defs.specs.declared.board.Part.{Part}
use Rattle.board_defs.specs.declared.board.PinAt.{PinAt}
use Rattle.board_lines.specs.NetWords.{Pin, NetWord, have_same_pin, net_words, word_pin, standing_words}
use Rattle.board_lines.specs.ChainParts.{pin_places, place_of_pin}
use Rattle.board_lines.specs.Names.{named, names_of}
use Rattle.board_lines.specs.declared.names.Naming.TheVariants.{Inert}
use Rattle.board_lines.proofs.DifferLemmas.{all_stand}
use Rattle.board_lines.proofs.MapLemmas.{repeated-map}
use Rattle.board_build.specs.declared.marked.MarkedWord.{MarkedWord}
use Rattle.board_build.specs.inner.Marked.{Marked, mark_word, marked_twice, seen_word}
use Rattle.board_build.specs.inner.SeenPins.{are_one, at_one_place}
use Rattle.board_build.proofs.SoundLemmas.{twice_none}
use Rattle.board_build.proofs.RuleLemmas.{map_none}

one_at : (o : Option PinAt) → at_one_place o o true ≡ true
one_at None = refl
one_at (Some at) = ap (λ b. b && (at.bit == at.bit)) (eqb_refl at.part) ∙ eqb_refl at.bit

-- if two words name the same part and the same pin of it, their pins have the same place, or neither
-- pin has a place
same_is_one : (parts : List Part) (inerts : List (List ℕ)) (a b : NetWord)
    → have_same_pin a b ≡ true
    → are_one (mark_word parts (pin_places parts) inerts a)
    (mark_word parts (pin_places parts) inerts b) ≡ true
same_is_one parts inerts a b same =
    let each = and_parts (same_word (word_pin a).0 (word_pin b).0) (same_word (word_pin a).1 (word_pin b).1) same in
    let part = same_text (word_pin a).0 (word_pin b).0 (sym each.0) in
    let pin = same_text (word_pin a).1 (word_pin b).1 (sym each.1) in
    let place : Pin → Option PinAt = place_of_pin (pin_places parts) in
    let one : word_pin a
    ≡ word_pin b = ap (λ (p : List ℕ). let q : Pin = (p, (word_pin a).1) in q) part
    ∙ ap (λ (n : List ℕ). let q : Pin = ((word_pin b).0, n) in q) pin in
    ap (at_one_place (place (word_pin a)) (place (word_pin b))) same
    ∙ ap (λ (q : Pin). at_one_place (place q) (place (word_pin b)) true) one
    ∙ one_at (place (word_pin b))

any_weaker : {X : Type 0} (p q : X → Bool) → ((x : X) → p x ≡ true → q x ≡ true) → (xs : List X)
    → list_any q xs ≡ false → list_any p xs ≡ false
any_weaker p q h [] e = refl
any_weaker {X} p q h (x ∷ xs) e = by_test (any_weaker p q h xs) (p x) (q x) refl refl e
  where
    by_test : (list_any q xs ≡ false → list_any p xs ≡ false) → (a b : Bool) → p x ≡ a → q x ≡ b
        → (b || list_any q xs) ≡ false → (a || list_any p xs) ≡ false
    by_test rest a true ea eb k = cc k
    by_test rest true false ea eb k = let wrong : true ≡ false = sym (h x ea) ∙ eb in cc wrong
    by_test rest false false ea eb k = rest k

-- if `p` implies `q`, a list without repeats by `q` has no repeats by `p`
repeated_weaker : {X : Type 0} (p q : X → X → Bool) → ((x y : X) → p x y ≡ true → q x y ≡ true)
    → (seen_word xs : List X) → repeated_from q seen_word xs ≡ None
    → repeated_from p seen_word xs ≡ None
repeated_weaker p q h seen_word [] e = refl
repeated_weaker {X} p q h seen_word (x ∷ xs) e =
    by_test (repeated_weaker p q h (seen_word ++ x ∷ []) xs) (list_any (λ s. q s x) seen_word) refl
    e
  where
    by_test :
        (repeated_from q (seen_word ++ x ∷ []) xs ≡ None
        → repeated_from p (seen_word ++ x ∷ []) xs ≡ None) → (b : Bool)
        → list_any (λ s. q s x) seen_word ≡ b
        → cond b (Some x) (repeated_from q (seen_word ++ x ∷ []) xs) ≡ None
        → repeated_from p seen_word (x ∷ xs) ≡ None
    by_test rest true eb k = cc k
    by_test rest false eb k =
        ap (λ b. cond b (Some x) (repeated_from p (seen_word ++ x ∷ []) xs))
        (any_weaker (λ s. p s x) (λ s. q s x) (λ s. h s x) seen_word eb) ∙ rest k

pub differ_by_place : (parts : List Part) (inerts : List (List ℕ)) (words : List NetWord)
    (marked : List Marked) → marked ≡ map (mark_word parts (pin_places parts) inerts) words
    → first_repeated are_one marked ≡ None → first_repeated have_same_pin words ≡ None
differ_by_place parts inerts words marked is e =
    let marks = mark_word parts (pin_places parts) inerts in
    let placed : first_repeated are_one (map marks words) ≡ None = ap (first_repeated are_one) (sym is) ∙ e in
    let same : option_map (λ (m : Marked). m) (first_repeated are_one (map marks words))
    ≡ option_map marks (first_repeated (λ a b. are_one (marks a) (marks b)) words) =
    repeated-map marks are_one (λ (m : Marked). m) words in
    repeated_weaker have_same_pin (λ a b. are_one (marks a) (marks b)) (same_is_one parts inerts) [] words
    (map_none marks (first_repeated (λ a b. are_one (marks a) (marks b)) words) (sym same ∙ ap (option_map (λ (m : Marked). m)) placed))

-- if the search has passed all words without finding a repeated pin, no pin is repeated
pub differ_seen : (words : List MarkedWord) (i : ℕ) → length words ≤ i
    → first_repeated (λ a b. are_one (seen_word a) (seen_word b)) words
    ≡ repeated_from (λ a b. are_one (seen_word a) (seen_word b)) (take i words) (drop i words)
    → first_repeated are_one (map seen_word words) ≡ None
differ_seen words i whole same =
    let none : first_repeated (λ a b. are_one (seen_word a) (seen_word b)) words
    ≡ None = same
    ∙ ap (repeated_from (λ a b. are_one (seen_word a) (seen_word b)) (take i words))
    (drop_all i words whole) in
    map_none (λ (m : Marked). m) (first_repeated are_one (map seen_word words))
    (repeated-map seen_word are_one (λ (m : Marked). m) words ∙ ap (option_map seen_word) none)

-- if no two marked words have the same pin, `standing_words` leaves out no word, and the rule on
-- pins in two nets finds no fault
pub all_stand_apart : (chain : List ChainLine) (parts : List Part) (nets : List NetLine)
    (marked : List Marked)
    → marked
    ≡ map (mark_word parts (pin_places parts) (names_of (named Inert chain))) (net_words nets)
    → first_repeated are_one marked ≡ None →
    (marked ≡ map (mark_word parts (pin_places parts) (names_of (named Inert chain))) (standing_words nets)) × (marked_twice marked ≡ None)
all_stand_apart chain parts nets marked is e =
    let marks = mark_word parts (pin_places parts) (names_of (named Inert chain)) in
    let none = differ_by_place parts (names_of (named Inert chain)) (net_words nets) marked is e in
    (is ∙ ap (map marks) (sym (all_stand (net_words nets) none)), ap marked_twice is ∙ twice_none chain parts (net_words nets) none)
