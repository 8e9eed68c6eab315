-- Samples of sets of numbers, blocks and columns. The expected values are worked out by hand.
use Rattle.std.proofs.Common.{◌≡◌, ◌∙◌, ℕ, ◌+◌, ◌-◌, ◌^◌, ◌<◌, ◌≤◌, Bool, true, false, not, List, [], ◌∷◌, filter, refl, sym, ap, arith}
use Rattle.std.specs.List.{list_all, range_with_len}
use Rattle.std.proofs.lemmas.Bool.{not-true}
use Rattle.board_defs.proofs.Members.{all_has, has_range}
use Rattle.driver_passes.specs.declared.blocks.Block.{Block}
use Rattle.driver_passes.specs.declared.column.Column.{Column}
use Rattle.driver_passes.specs.inner.NumberSets.{has_bit, is_in, is_of_word, IsFirstNumber}
use Rattle.driver_passes.specs.inner.Blocks.{has_place}
use Rattle.driver_passes.specs.inner.Shown.{IsColumn, words_at}

-- the numbers below 192 of a set of three words
abbrev numbers_of : List ℕ → List ℕ
numbers_of words = filter (is_in words) (range_with_len 0 192)

no_numbers : numbers_of (0 ∷ 0 ∷ 0 ∷ []) ≡ []
unfolding is_in
no_numbers = refl

outer_numbers : numbers_of (1 ∷ 2 ^ 63 ∷ 0 ∷ []) ≡ 0 ∷ 127 ∷ []
unfolding is_in
outer_numbers = refl

more_numbers : numbers_of (33 ∷ (2 ^ 63 + 1) ∷ 0 ∷ []) ≡ 0 ∷ 5 ∷ 64 ∷ 127 ∷ []
unfolding is_in
more_numbers = refl

past_the_words : is_in (1 ∷ 2 ^ 63 ∷ 0 ∷ []) 1000 ≡ false
unfolding is_in
past_the_words = refl

-- the word with all bits set
abbrev all : ℕ
all = 2 ^ 64 - 1

-- word 1 lacks bit 2, which has the value 4, so only number 64 + 2 is missing
taken_out : filter (λ n. not (is_in (all ∷ (all - 4) ∷ all ∷ []) n)) (range_with_len 0 192) ≡ 66 ∷ []
unfolding is_in
taken_out = refl

-- The value 5 has bits 0 and 2 set. In word 1 these are the bits of the numbers 64 and 66.
of_one_word : filter (is_of_word 1 5) (range_with_len 0 192) ≡ 64 ∷ 66 ∷ []
of_one_word = refl

-- the first and the last bit of word 0 are the bits of the numbers 0 and 63
ends_of_word : filter (is_of_word 0 (2 ^ 63 + 1)) (range_with_len 0 192) ≡ 0 ∷ 63 ∷ []
ends_of_word = refl

-- a word with no bit set has no numbers
none_of_word : filter (is_of_word 2 0) (range_with_len 0 192) ≡ []
none_of_word = refl

-- blocks with the bits 0 and 1 of word 0, no bit of word 1, and the bits 2 and 63 of word 2
abbrev some_blocks : List Block
some_blocks =
    record { word = 0; bits = 3 } ∷ record { word = 1; bits = 0 } ∷ record { word = 2; bits = 4 }
    ∷ record { word = 2; bits = 2 ^ 63 } ∷ []

of_blocks : filter (has_place some_blocks) (range_with_len 0 192) ≡ 0 ∷ 1 ∷ 130 ∷ 191 ∷ []
of_blocks = refl

-- three rows of different lengths; the second row has only word 0, so `words_at` gives 0 for any other word of this row
abbrev some_rows : List (List ℕ)
some_rows = (5 ∷ 6 ∷ []) ∷ (7 ∷ []) ∷ (8 ∷ 9 ∷ 10 ∷ []) ∷ []

first_words : words_at 0 some_rows ≡ 5 ∷ 7 ∷ 8 ∷ []
first_words = refl

second_words : words_at 1 some_rows ≡ 6 ∷ 0 ∷ 9 ∷ []
second_words = refl

-- a column with number 1 has word 1 of each row
of_column : (column : Column) → column.number ≡ 1 → column.words.items ≡ 6 ∷ 0 ∷ 9 ∷ [] → IsColumn some_rows column
of_column column number words = words ∙ sym (ap (λ n. words_at n some_rows) number)

-- Turns a computed check of the numbers in `from..end` into a statement about each of them.
none_by : (passes : ℕ → Bool) (from end : ℕ)
    → list_all (λ n. not (passes n)) (range_with_len from (end - from)) ≡ true → (n : ℕ) → from ≤ n
    → n < end → passes n ≡ false
none_by passes from end none n least below =
    not-true _
    (all_has (λ m. not (passes m)) (range_with_len from (end - from)) n none
    (has_range from (end - from) n least (omega (arith, least, below))))

first_by : (passes : ℕ → Bool) (from first : ℕ) → from ≤ first → passes first ≡ true
    → list_all (λ n. not (passes n)) (range_with_len from (first - from)) ≡ true
    → IsFirstNumber passes from first
first_by passes from first least found none = record { least = least; found = found; earlier = none_by passes from first none }

-- the word 9 has bits 0 and 3, so its first bit from place 0 on is bit 0
first_from_0 : IsFirstNumber (has_bit 9) 0 0
first_from_0 = first_by (has_bit 9) 0 0 (omega arith) refl refl

first_from_1 : IsFirstNumber (has_bit 9) 1 3
first_from_1 = first_by (has_bit 9) 1 3 (omega arith) refl refl

none_from_4 : (n : ℕ) → 4 ≤ n → n < 64 → has_bit 9 n ≡ false
none_from_4 = none_by (has_bit 9) 4 64 refl

-- three words, of which word 2 has bits 0 and 3 and its last bit
abbrev late : List ℕ
late = 0 ∷ 0 ∷ (2 ^ 63 + 9) ∷ []

first_from_129 : IsFirstNumber (is_in late) 129 131
unfolding is_in
first_from_129 = first_by (is_in late) 129 131 (omega arith) refl refl

first_from_132 : IsFirstNumber (is_in late) 132 191
unfolding is_in
first_from_132 = first_by (is_in late) 132 191 (omega arith) refl refl

none_from_64 : (n : ℕ) → 64 ≤ n → n < 128 → is_in late n ≡ false
unfolding is_in
none_from_64 = none_by (is_in late) 64 128 refl
