-- Lemmas about sets of numbers, which have a bit for each number.
use Rattle.std.proofs.Common.{◌≡◌, ◌⊎◌, inl, inr, ℕ, zero, suc, ◌+◌, ◌-◌, ◌*◌, ◌/◌, ◌%◌, ◌^◌, ◌<◌, ◌≤◌, Bool, true, false, not, ◌&&◌, ◌||◌, List, length, get_or, set, replicate, refl, sym, ◌∙◌, ap, arith, cond, max, min, w64}
use Rattle.std.specs.Prelude.{◌==◌}
use Rattle.std.proofs.Math.Bool.{and-true, or-false}
use Rattle.std.specs.Int.{bit_at, bit_not, trailing_zeros}
use Rattle.std.specs.Int.Bits.{bit_and, bit_or}
use Rattle.std.proofs.lemmas.Bool.{cases_eq, cases_lt, eq-eqb, ne_eqb}
use Rattle.std.proofs.lemmas.Nat.{and_le_l}
use Rattle.std.proofs.lemmas.Nat.Bits.{bit_at-lt, bit_at-trailing_zeros, bit_at-zero, bit_at_and, bit_at_or, bit_at_mask_below, bit_at_mask_inside, bit_at_not, bit_at_ones, bit_at_set_other, bit_at_set_same, ones_shl}
use Rattle.std.proofs.lemmas.List.{get_or_past, get_or-set_same, get_or-set_other}
use Rattle.net_classes.specs.Pairs.{AreWordBits}
use Rattle.driver_passes.specs.inner.NumberSets.{IsFirstNumber, has_bit, is_in, is_of_word}

pub bit_is : (word i : ℕ) (t : Bool) → bit_at word i ≡ cond t 1 0 → has_bit word i ≡ t
bit_is word i true e = ap (λ b. b == 1) e
bit_is word i false e = ap (λ b. b == 1) e

pub is_bit : (word i : ℕ) → bit_at word i ≡ cond (has_bit word i) 1 0
is_bit word i = by_bit (bit_at word i) (bit_at-lt word i)
  where
    by_bit : (b : ℕ) → b < 2 → b ≡ cond (b == 1) 1 0
    by_bit zero less = refl
    by_bit (suc zero) less = refl
    by_bit (suc (suc b)) less = absurd (omega arith)

pub no_bit : (i : ℕ) → has_bit 0 i ≡ false
no_bit i = ap (λ b. b == 1) (bit_at-zero i)

two_bits : (f : ℕ → ℕ → ℕ) (t : Bool → Bool → Bool) → (f 0 0 == 1) ≡ t false false
    → (f 0 1 == 1) ≡ t false true → (f 1 0 == 1) ≡ t true false → (f 1 1 == 1) ≡ t true true
    → (x y : ℕ) → x < 2 → y < 2 → (f x y == 1) ≡ t (x == 1) (y == 1)
two_bits f t none second first both zero zero less few = none
two_bits f t none second first both zero (suc zero) less few = second
two_bits f t none second first both (suc zero) zero less few = first
two_bits f t none second first both (suc zero) (suc zero) less few = both
two_bits f t none second first both (suc (suc x)) y less few = absurd (omega arith)
two_bits f t none second first both x (suc (suc y)) less few = absurd (omega arith)

pub bit_less : (a b i : ℕ) → b < 2 ^ 64 → i < 64 → has_bit (bit_and a (bit_not w64 b)) i ≡ (has_bit a i && not (has_bit b i))
bit_less a b i fits below =
    ap (λ x. x == 1) (bit_at_and a (bit_not w64 b) i ∙ ap (min (bit_at a i)) (bit_at_not w64 b i fits below)) ∙
    two_bits (λ x y. min x (1 - y)) (λ p q. p && not q) refl refl refl refl (bit_at a i) (bit_at b i) (bit_at-lt a i) (bit_at-lt b i)

pub none_past : (words : List ℕ) (n : ℕ) → length words ≤ n / 64 → is_in words n ≡ false
unfolding is_in
none_past words n past = ap (λ w. has_bit w (n % 64)) (get_or_past words (n / 64) 0 past) ∙ no_bit (n % 64)

zeros : (count i : ℕ) → get_or (replicate {A = ℕ} count 0) i 0 ≡ 0
zeros zero i = refl
zeros (suc count) zero = refl
zeros (suc count) (suc i) = zeros count i

pub none_blank : (words : List ℕ) (count n : ℕ) → words ≡ replicate count 0 → is_in words n ≡ false
unfolding is_in
none_blank words count n e = ap (λ w. has_bit w (n % 64)) (ap (λ v. get_or v (n / 64) 0) e ∙ zeros count (n / 64)) ∙ no_bit (n % 64)

pub all_ones : (words : List ℕ) (n : ℕ) → get_or words (n / 64) 0 ≡ 2 ^ 64 - 1 → is_in words n ≡ true
unfolding is_in
all_ones words n e = ap (λ w. has_bit w (n % 64)) e ∙ ap (λ b. b == 1) (bit_at_ones 64 (n % 64) (omega arith))

pub word_bits : (words : List ℕ) (number word : ℕ) → word ≡ get_or words number 0 → AreWordBits (is_in words) number word
unfolding is_in
word_bits words number word e i below =
    let here : (64 * number + i) / 64 ≡ number = omega (arith, below) in
    let place : (64 * number + i) % 64 ≡ i = omega (arith, below) in
    let place_bit : has_bit (get_or words ((64 * number + i) / 64) 0) ((64 * number + i) % 64)
    ≡ has_bit word i = ap (λ k. has_bit (get_or words k 0) ((64 * number + i) % 64)) here
    ∙ ap (has_bit (get_or words number 0)) place ∙ sym (ap (λ w. has_bit w i) e) in
    is_bit word i ∙ sym (ap (λ t. cond t 1 0) place_bit)

pub bit_more : (a b i : ℕ) → has_bit (bit_or a b) i ≡ (has_bit b i || has_bit a i)
bit_more a b i =
    ap (λ x. x == 1) (bit_at_or a b i)
    ∙ two_bits max (λ p q. q || p) refl refl refl refl (bit_at a i) (bit_at b i) (bit_at-lt a i)
    (bit_at-lt b i)

pub bit_both : (a b i : ℕ) → has_bit (bit_and a b) i ≡ (has_bit a i && has_bit b i)
bit_both a b i =
    ap (λ x. x == 1) (bit_at_and a b i)
    ∙ two_bits min (λ p q. p && q) refl refl refl refl (bit_at a i) (bit_at b i) (bit_at-lt a i)
    (bit_at-lt b i)

-- If `t` gives the bit for number `n` in `after` from the bits for `n` in `before` and `others`, it also gives whether `n` is in `after`.
-- `before` and `after` have the same number of words. If `n` is past them, `t` must give false.
pub words_by : (t : Bool → Bool → Bool) (before after others : List ℕ) (n : ℕ)
    → (length before ≤ n / 64 → t false (is_in others n) ≡ false) → length after ≡ length before →
    (n / 64 < length before
    → has_bit (get_or after (n / 64) 0) (n % 64)
    ≡ t (has_bit (get_or before (n / 64) 0) (n % 64))
    (has_bit (get_or others (n / 64) 0) (n % 64))) →
    is_in after n ≡ t (is_in before n) (is_in others n)
unfolding is_in
words_by t before after others n none same each = by_place (cases_lt (n / 64) (length before))
  where
    by_place : (n / 64 < length before) ⊎ (length before ≤ n / 64) → is_in after n ≡ t (is_in before n) (is_in others n)
    by_place (inl within) = each within
    by_place (inr past) =
        none_past after n (omega (arith, past, same)) ∙ sym (none past)
        ∙ sym (ap (λ b. t b (is_in others n)) (none_past before n past))

-- Word `number` is replaced by `word`. If `t` gives the bit for number `n` in `word` from the bits for `n` in the old word and in `bits`,
-- it also gives whether `n` is in the new set.
pub word_changed : (t : Bool → Bool → Bool) → ((b : Bool) → t b false ≡ b)
    → (words : List ℕ) (number word bits n : ℕ) → number < length words →
    has_bit word (n % 64) ≡ t (has_bit (get_or words number 0) (n % 64)) (has_bit bits (n % 64))
    → is_in (set words number word) n ≡ t (is_in words n) (is_of_word number bits n)
unfolding is_in
word_changed t same words number word bits n within e = by_word (cases_eq (n / 64) number)
  where
    bit : Bool
    bit = has_bit bits (n % 64)

    by_word : (n / 64 ≡ number) ⊎ (n / 64 ≡ number → ⊥) → is_in (set words number word) n ≡ t (is_in words n) (is_of_word number bits n)
    by_word (inl here) =
        ap (λ k. has_bit (get_or (set words number word) k 0) (n % 64)) here
        ∙ ap (λ w. has_bit w (n % 64)) (get_or-set_same words number word 0 within) ∙ e
        ∙ sym
        (ap (λ k. t (has_bit (get_or words k 0) (n % 64)) (k == number && bit)) here
        ∙ ap (λ b. t (has_bit (get_or words number 0) (n % 64)) (b && bit))
        (eq-eqb number number refl))
    by_word (inr differ) =
        ap (λ w. has_bit w (n % 64)) (get_or-set_other words number (n / 64) word 0 differ)
        ∙ sym (same (is_in words n))
        ∙ sym (ap (λ b. t (is_in words n) (b && bit)) (ne_eqb (n / 64) number differ))

pub word_past : (words : List ℕ) (number bits n : ℕ) → length words ≤ number
    → is_in words n ≡ (is_in words n && not (is_of_word number bits n))
word_past words number bits n past = by_word (cases_eq (n / 64) number)
  where
    by_word : (n / 64 ≡ number) ⊎ (n / 64 ≡ number → ⊥) → is_in words n ≡ (is_in words n && not (is_of_word number bits n))
    by_word (inl here) =
        let none : is_in words n ≡ false = none_past words n (omega (arith, past, here)) in
        none ∙ sym (ap (λ t. t && not (is_of_word number bits n)) none)
    by_word (inr differ) =
        sym (and-true (is_in words n))
        ∙ ap (λ t. is_in words n && not (t && has_bit bits (n % 64)))
        (sym (ne_eqb (n / 64) number differ))

one_bit : (place i : ℕ) → place < 64 → has_bit (1 * 2 ^ place % 2 ^ 64) i ≡ (i == place)
one_bit place i below =
    sym
    (bit_more 0 (1 * 2 ^ place % 2 ^ 64) i
    ∙ ap (λ t. has_bit (1 * 2 ^ place % 2 ^ 64) i || t) (no_bit i)
    ∙ or-false (has_bit (1 * 2 ^ place % 2 ^ 64) i)) ∙ by_place (cases_eq i place)
  where
    by_place : (i ≡ place) ⊎ (i ≡ place → ⊥) → has_bit (bit_or 0 (1 * 2 ^ place % 2 ^ 64)) i ≡ (i == place)
    by_place (inl same) =
        ap (has_bit (bit_or 0 (1 * 2 ^ place % 2 ^ 64))) same
        ∙ ap (λ b. b == 1) (bit_at_set_same w64 0 place below) ∙ sym (eq-eqb i place same)
    by_place (inr differ) = ap (λ b. b == 1) (bit_at_set_other w64 0 place below i differ) ∙ no_bit i ∙ sym (ne_eqb i place differ)

pub one_number : (number n : ℕ) → is_of_word (number / 64) (1 * 2 ^ (number % 64) % 2 ^ 64) n ≡ (n == number)
one_number number n =
    ap (λ t. n / 64 == number / 64 && t) (one_bit (number % 64) (n % 64) (omega arith))
    ∙ by_word (cases_eq (n / 64) (number / 64)) (cases_eq (n % 64) (number % 64))
  where
    by_word : (n / 64 ≡ number / 64) ⊎ (n / 64 ≡ number / 64 → ⊥)
        → (n % 64 ≡ number % 64) ⊎ (n % 64 ≡ number % 64 → ⊥)
        → (n / 64 == number / 64 && n % 64 == number % 64) ≡ (n == number)
    by_word (inl word) (inl bit) =
        ap (λ t. t && n % 64 == number % 64) (eq-eqb (n / 64) (number / 64) word)
        ∙ eq-eqb (n % 64) (number % 64) bit ∙ sym (eq-eqb n number (omega (arith, word, bit)))
    by_word (inl word) (inr differ) =
        ap (λ t. t && n % 64 == number % 64) (eq-eqb (n / 64) (number / 64) word)
        ∙ ne_eqb (n % 64) (number % 64) differ
        ∙ sym (ne_eqb n number (λ one. differ (ap (λ k. k % 64) one)))
    by_word (inr differs) bit =
        ap (λ t. t && n % 64 == number % 64) (ne_eqb (n / 64) (number / 64) differs)
        ∙ sym (ne_eqb n number (λ one. differs (ap (λ k. k / 64) one)))

-- the mask keeps the bits of the word from `place` on
high_bit : (word place i : ℕ) → place < 64 → place ≤ i → i < 64
    → bit_at (bit_and word ((2 ^ 64 - 1) * 2 ^ place % 2 ^ 64)) i ≡ bit_at word i
high_bit word place i below from within =
    let mask : bit_at ((2 ^ 64 - 1) * 2 ^ place % 2 ^ 64) i
    ≡ 1 = ap (λ m. bit_at m i) (ones_shl 64 place (omega (arith, below)))
    ∙ bit_at_mask_inside place 64 i from within in
    let few : bit_at word i < 2 = bit_at-lt word i in
    let one : min (bit_at word i) 1 ≡ bit_at word i = omega (arith, few) in
    bit_at_and word ((2 ^ 64 - 1) * 2 ^ place % 2 ^ 64) i ∙ ap (min (bit_at word i)) mask ∙ one

low_bit : (word place i : ℕ) → place < 64 → i < place → bit_at (bit_and word ((2 ^ 64 - 1) * 2 ^ place % 2 ^ 64)) i ≡ 0
low_bit word place i below less =
    let mask : bit_at ((2 ^ 64 - 1) * 2 ^ place % 2 ^ 64) i
    ≡ 0 = ap (λ m. bit_at m i) (ones_shl 64 place (omega (arith, below)))
    ∙ bit_at_mask_below place 64 i less in
    let none : min (bit_at word i) 0 ≡ 0 = omega arith in
    bit_at_and word ((2 ^ 64 - 1) * 2 ^ place % 2 ^ 64) i ∙ ap (min (bit_at word i)) mask ∙ none

abbrev pub rest_of : ℕ → ℕ → ℕ
rest_of word place = bit_and word ((2 ^ 64 - 1) * 2 ^ place % 2 ^ 64)

pub none_high : (word place : ℕ) → place < 64 → rest_of word place ≡ 0 → (i : ℕ) → place ≤ i → i < 64 → has_bit word i ≡ false
none_high word place below e i from within =
    ap (λ b. b == 1)
    (sym (high_bit word place i below from within) ∙ ap (λ w. bit_at w i) e ∙ bit_at-zero i)

pub lowest_is : (word place : ℕ) → place < 64 → word < 2 ^ 64 → (rest_of word place ≡ 0 → ⊥)
    → IsFirstNumber (has_bit word) place (trailing_zeros w64 (rest_of word place))
    × (trailing_zeros w64 (rest_of word place) < 64)
lowest_is word place below fits some = (
  record {
    least = by_order (cases_lt low place);
    found = ap (λ b. b == 1) (sym (high_bit word place low below (by_order (cases_lt low place)) bits.0) ∙ bits.1);
    earlier = λ i from less. ap (λ b. b == 1) (sym (high_bit word place i below from (omega (arith, less, bits.0))) ∙ bits.2 i less);
  },
  bits.0,
)
  where
    rest : ℕ
    rest = rest_of word place

    low : ℕ
    low = trailing_zeros w64 rest

    bits : (low < 64) × (bit_at rest low ≡ 1) × ((i : ℕ) → i < low → bit_at rest i ≡ 0)
    bits = bit_at-trailing_zeros w64 rest (omega (arith, some)) (omega (arith, fits, and_le_l word ((2 ^ 64 - 1) * 2 ^ place % 2 ^ 64)))

    by_order : (low < place) ⊎ (place ≤ low) → place ≤ low
    by_order (inl less) = let zero_one : 0 ≡ 1 = sym (low_bit word place low below less) ∙ bits.1 in absurd (omega (arith, zero_one))
    by_order (inr most) = most

passes_bit : (passes : ℕ → Bool) (number word i : ℕ) → AreWordBits passes number word → i < 64 → passes (64 * number + i) ≡ has_bit word i
passes_bit passes number word i are below = sym (bit_is word i (passes (64 * number + i)) (are i below))

in_word : (n number : ℕ) → n / 64 ≡ number → 64 * number + n % 64 ≡ n
in_word n number e = omega (arith, e)

passes_number : (passes : ℕ → Bool) (n number word : ℕ) → AreWordBits passes number word
    → n / 64 ≡ number → passes n ≡ has_bit word (n % 64)
passes_number passes n number word are e = sym (ap passes (in_word n number e)) ∙ passes_bit passes number word (n % 64) are (omega arith)

pub none_next : (passes : ℕ → Bool) (from word : ℕ) → AreWordBits passes (from / 64) word
    → ((i : ℕ) → from % 64 ≤ i → i < 64 → has_bit word i ≡ false) → (n : ℕ) → from ≤ n
    → n < 64 * (from / 64 + 1) → passes n ≡ false
none_next passes from word are none n least less =
    let same : n / 64 ≡ from / 64 = omega (arith, least, less) in
    passes_number passes n (from / 64) word are same ∙ none (n % 64) (omega (arith, least, same)) (omega arith)

pub first_next : (passes : ℕ → Bool) (from word place : ℕ) → AreWordBits passes (from / 64) word
    → IsFirstNumber (has_bit word) (from % 64) place → place < 64
    → IsFirstNumber passes from (64 * (from / 64) + place)
first_next passes from word place are first below = record {
  least = omega (arith, first.least);
  found = passes_bit passes (from / 64) word place are below ∙ first.found;
  earlier = λ n least less.
      let same : n / 64 ≡ from / 64 = omega (arith, least, less, below) in
      passes_number passes n (from / 64) word are same
      ∙ first.earlier (n % 64) (omega (arith, least, same)) (omega (arith, less, same, below));
}

both_bits : (s t : Bool) → min (cond s 1 0) (cond t 1 0) ≡ cond (s && t) 1 0
both_bits true true = refl
both_bits true false = refl
both_bits false true = refl
both_bits false false = refl

pub and_bits : (p q : ℕ → Bool) (number word other : ℕ) → AreWordBits p number word
    → AreWordBits q number other → AreWordBits (λ n. p n && q n) number (bit_and word other)
and_bits p q number word other are have i below =
    bit_at_and word other i ∙ ap (λ b. min b (bit_at other i)) (are i below)
    ∙ ap (min (cond (p (64 * number + i)) 1 0)) (have i below)
    ∙ both_bits (p (64 * number + i)) (q (64 * number + i))

pub less_bits : (p q : ℕ → Bool) (number word other : ℕ) → other < 2 ^ 64
    → AreWordBits p number word → AreWordBits q number other
    → AreWordBits (λ n. p n && not (q n)) number (bit_and word (bit_not w64 other))
less_bits p q number word other fits are have i below =
    is_bit (bit_and word (bit_not w64 other)) i
    ∙ ap (λ t. cond t 1 0)
    (bit_less word other i fits below
    ∙ ap (λ t. t && not (has_bit other i)) (sym (passes_bit p number word i are below))
    ∙ ap (λ t. p (64 * number + i) && not t)
    (sym (passes_bit q number other i have below)))

pub no_bits : (p q : ℕ → Bool) (number word : ℕ) → word ≡ 0 → AreWordBits p number word → AreWordBits (λ n. p n && q n) number 0
no_bits p q number word none are i below =
    let unset : p (64 * number + i) ≡ false = passes_bit p number word i are below ∙ ap (λ w. has_bit w i) none ∙ no_bit i in
    bit_at-zero i ∙ sym (ap (λ t. cond (t && q (64 * number + i)) 1 0) unset)

pub passed_more : (p : ℕ → Bool) (from number past : ℕ)
    → ((n : ℕ) → from ≤ n → n < number → p n ≡ false)
    → ((n : ℕ) → number ≤ n → n < past → p n ≡ false) → (n : ℕ) → from ≤ n → n < past → p n ≡ false
passed_more p from number past earlier later n least below = by_place (cases_lt n number)
  where
    by_place : (n < number) ⊎ (number ≤ n) → p n ≡ false
    by_place (inl less) = earlier n least less
    by_place (inr most) = later n most below
