-- Lemmas about a loop that collects the words of a net file line by line, and about words that name
-- different pins.
use Rattle.std.proofs.Common.{◌≡◌, ℕ, zero, suc, ◌+◌, ◌<◌, ◌==◌, Bool, true, List, [], ◌∷◌, ◌++◌, length, map, drop, get_or, append_assoc, arith, Option, Some, None, refl, sym, ap, ◌∙◌, Bor}
use Rattle.std.specs.Prelude.{is_none, slice_get, unwrap_or}
use Rattle.std.proofs.lemmas.List.{drop_more}
use Rattle.std.proofs.lemmas.Bool.{and_right}
use Rattle.board_files.specs.declared.net_file.NetLine.{NetLine}
use Rattle.first_places.specs.Places.{once, first_repeated}
use Rattle.first_places.proofs.OnceLemmas.{unrepeated}
use Rattle.board_defs.specs.declared.spot.Spot.{Spot}
use Rattle.board_lines.specs.NetWords.{NetWord, have_same_pin, lent_pin, line_words, net_number, word_net, word_pin, words_of_nets, same_pin, same_place}

abbrev pub same_lent : (Bor (List ℕ) × Bor (List ℕ)) × Spot → (Bor (List ℕ) × Bor (List ℕ)) × Spot → Bool
same_lent a b = same_pin (lent_pin a.0) (lent_pin b.0)

number_there : {A : Type 0} (f : A → ℕ) (xs : List A) (i : ℕ) (x : A) → i < length xs
    → get_or xs i x ≡ x → unwrap_or (slice_get (map f xs) i) 0 ≡ f x
number_there f [] i x within read = absurd (omega (arith, within))
number_there f (y ∷ ys) zero x within read = ap f read
number_there f (y ∷ ys) (suc i) x within read = number_there f ys i x (omega (arith, within)) read

-- one step of the loop: `new` is `done` with the words of line `i` appended
pub words_step : (names : List (List ℕ)) (lines : List NetLine) (i : ℕ) (line : NetLine)
    (numbers : List ℕ) (done new all : List NetWord) → i < length lines → get_or lines i line ≡ line
    →
    numbers ≡ map (λ (l : NetLine). net_number names l.name) lines
    → new ≡ done ++ line_words (unwrap_or (slice_get numbers i) 0) line.line 3 line.pins
    → all ≡ done ++ words_of_nets names (drop i lines) →
    all ≡ new ++ words_of_nets names (drop (i + 1) lines)
words_step names lines i line numbers done new all within read told pushed same =
    let cut : drop i lines
    ≡ line ∷ drop (i + 1) lines = drop_more lines i line within
    ∙ ap (λ (l : NetLine). l ∷ drop (i + 1) lines) read in
    let number : unwrap_or (slice_get numbers i) 0
    ≡ net_number names line.name = ap (λ (v : List ℕ). unwrap_or (slice_get v i) 0) told
    ∙ number_there (λ (l : NetLine). net_number names l.name) lines i line within read in
    same ∙ ap (λ (v : List NetLine). done ++ words_of_nets names v) cut
    ∙ ap (λ n. done ++ (line_words n line.line 3 line.pins ++ words_of_nets names (drop (i + 1) lines))) (sym number)
    ∙ sym
    (append_assoc done (line_words (unwrap_or (slice_get numbers i) 0) line.line 3 line.pins)
    (words_of_nets names (drop (i + 1) lines)))
    ∙ ap (λ (v : List NetWord). v ++ words_of_nets names (drop (i + 1) lines)) (sym pushed)

-- if no word names the pin of an earlier word, `once` leaves out no word
pub all_stand : (words : List NetWord) → first_repeated have_same_pin words ≡ None → once same_place words ≡ words
all_stand words e =
    unrepeated have_same_pin same_place
    (λ a b h. and_right (word_net a == word_net b) (same_pin (word_pin a) (word_pin b)) h) words e

pub none_of : {A : Type 0} (o : Option A) → is_none o ≡ true → o ≡ None
none_of None e = refl
none_of (Some a) e = cc e
