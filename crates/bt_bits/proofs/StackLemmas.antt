-- Lemmas about rows that are stored side by side.
use Rattle.std.proofs.Common.{◌≡◌, ℕ, ◌*◌, ◌/◌, ◌%◌, ◌<◌, zero, suc, Bool, true, List, [], ◌∷◌, length, get_or, set, refl, sym, ap, ◌∙◌, arith, length-set}
use Rattle.std.specs.Prelude.{All, ◌==◌, map}
use Rattle.std.proofs.lemmas.Bool.{agree_below, agree_below_at}
use Rattle.std.proofs.lemmas.List.{length-map}
use Rattle.std.proofs.lemmas.List.Elements.{All-head, All-tail}
use Rattle.bt_bits.specs.Digits.{digits_of, digit_row}
use Rattle.bt_bits.specs.Hex.{digit_count}
use Rattle.bt_bits.specs.Stacks.{AreStacked, digit_in}
use Rattle.bt_bits.specs.inner.Digits.{with_bit}
use Rattle.bt_bits.proofs.ColumnLemmas.{same_digit}
use Rattle.bt_bits.proofs.DigitLemmas.{digits_of-row, digits_of-set, length-digits_of, row_bits-is}

pub length-words : (len : ℕ) (words : List ℕ) → AreStacked len words → length words ≡ digit_count len
length-words len words are =
    let first = are 0 (omega arith) in
    omega (
      arith,
      length-map words (digit_in 0),
      ap length first.values,
      length-digits_of (digit_row len (map (digit_in 0) words)),
      first.count,
    )

pub stacked_by : (len : ℕ) (words : List ℕ) (rows : ℕ → List Bool)
    → ((j : ℕ) → j < 16 → length (rows j) ≡ len)
    → ((j : ℕ) → j < 16 → map (digit_in j) words ≡ digits_of (rows j)) → AreStacked len words
stacked_by len words rows sized are j less = digits_of-row (rows j) len (map (digit_in j) words) (sized j less) (are j less)

map_set : (f : ℕ → ℕ) (words : List ℕ) (place word : ℕ) → map f (set words place word) ≡ set (map f words) place (f word)
map_set f [] place word = refl
map_set f (w ∷ words) zero word = refl
map_set f (w ∷ words) (suc place) word = ap (λ t. f w ∷ t) (map_set f words place word)

map_get : (f : ℕ → ℕ) (words : List ℕ) (place : ℕ) → place < length words → get_or (map f words) place 0 ≡ f (get_or words place 0)
map_get f [] place within = absurd (omega arith)
map_get f (w ∷ words) zero within = refl
map_get f (w ∷ words) (suc place) within = map_get f words place (omega arith)

-- Setting bit `i % 4` of digit `j` in word `i / 4` sets bit `i` of row `j`.
pub set_digits : (len i : ℕ) (words : List ℕ) (word j : ℕ) (bit : Bool) → AreStacked len words → i < len → j < 16 →
    digit_in j word ≡ with_bit (digit_in j (get_or words (i / 4) 0)) (i % 4) bit
    → map (digit_in j) (set words (i / 4) word)
    ≡ digits_of (set (digit_row len (map (digit_in j) words)) i bit)
set_digits len i words word j bit are within less is =
    let row = digit_row len (map (digit_in j) words) in
    let mine = are j less in
    let place : i / 4 < length words = omega (arith, length-words len words are) in
    map_set (digit_in j) words (i / 4) word
    ∙ ap (set (map (digit_in j) words) (i / 4)) (is ∙ ap (λ d. with_bit d (i % 4) bit) (sym (map_get (digit_in j) words (i / 4) place)))
    ∙ ap (λ digits. set digits (i / 4) (with_bit (get_or digits (i / 4) 0) (i % 4) bit)) mine.values
    ∙ digits_of-set row i bit (omega (arith, mine.count))

pub set_row : (len i : ℕ) (words : List ℕ) (word j : ℕ) (bit : Bool) → AreStacked len words → i < len → j < 16 →
    digit_in j word ≡ with_bit (digit_in j (get_or words (i / 4) 0)) (i % 4) bit
    → digit_row len (map (digit_in j) (set words (i / 4) word))
    ≡ set (digit_row len (map (digit_in j) words)) i bit
set_row len i words word j bit are within less is =
    let row = digit_row len (map (digit_in j) words) in
    row_bits-is (set row i bit) len _ (length-set row i bit ∙ (are j less).count) (set_digits len i words word j bit are within less is)

-- The product of a digit and the word in which each digit is 1 has 16 digits, and each is this digit. The
-- proof computes all cases.
digit_in-each : (digit j : ℕ) → digit < 16 → j < 16 → digit_in j (digit * 1229782938247303441) ≡ digit
digit_in-each digit j small less =
    same_digit (digit * 1229782938247303441) digit
    (agree_below_at
    (λ d. agree_below (λ i. digit_in i (d * 1229782938247303441) == d) (λ _. true) 16)
    (λ _. true) 16 digit refl small) j less

pub digits_each : (digits : List ℕ) (j : ℕ) → All (λ x. x < 16) digits → j < 16
    → map (digit_in j) (map (λ x. x * 1229782938247303441) digits) ≡ digits
digits_each [] j small less = refl
digits_each (x ∷ xs) j small less =
    ap (λ d. d ∷ map (digit_in j) (map (λ x. x * 1229782938247303441) xs)) (digit_in-each x j (All-head (λ x. x < 16) x xs small) less)
    ∙ ap (λ t. x ∷ t) (digits_each xs j (All-tail (λ x. x < 16) x xs small) less)
