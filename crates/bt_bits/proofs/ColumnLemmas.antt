-- Lemmas about words of 64 bits that have a hexadecimal digit for each of 16 rows.
use Rattle.std.proofs.Common.{◌≡◌, ℕ, zero, suc, ◌+◌, ◌-◌, ◌*◌, ◌/◌, ◌%◌, ◌^◌, ◌<◌, Bool, true, [], ◌∷◌, get_or, refl, sym, ap, ◌∙◌, arith, nat_lt, eqb-true, ltb-true, div-one, mod-eq_of_lt, div-add-mod'}
use Rattle.std.specs.Prelude.{bit_and, bit_or, ◌==◌}
use Rattle.std.specs.Int.{bit_at}
use Rattle.std.specs.Int.Bits.{or_shifted_r}
use Rattle.std.proofs.lemmas.Bool.{agree_below, agree_below_at}
use Rattle.std.proofs.lemmas.Nat.{and_assoc, and_comm, and_le_l, and_mask, and_mod, and_shr, and-not, or_disjoint, or_mod, or_shr, pow_below, pow_pos, shr-shr}
use Rattle.std.proofs.lemmas.Nat.Bits.{and_pow, bit_at-lt, bit_at_cat_high, bit_at_cat_low}
use Rattle.std.proofs.lemmas.Grind.{and-not_self}
use Rattle.bt_bits.specs.Digits.{bit_value, digit_bit}
use Rattle.bt_bits.specs.Stacks.{digit_in}
use Rattle.bt_bits.specs.inner.Digits.{with_bit}
use Rattle.bt_bits.proofs.DigitLemmas.{bit_value-test}

low_bit : (x n i : ℕ) → i < n → bit_at (x % 2 ^ n) i ≡ bit_at x i
low_bit x n i within = sym (bit_at_cat_low (x / 2 ^ n) n (x % 2 ^ n) i within) ∙ ap (λ y. bit_at y i) (div-add-mod' x (2 ^ n))

field_bit : (x m n i : ℕ) → i < n → bit_at (x / 2 ^ m % 2 ^ n) i ≡ bit_at x (m + i)
field_bit x m n i within = low_bit (x / 2 ^ m) n i within ∙ ap (λ y. y % 2) (shr-shr x m i)

shifted_bit : (x k i : ℕ) → i + k < 64 → bit_at (x * 2 ^ k % 2 ^ 64) (i + k) ≡ bit_at x i
shifted_bit x k i within =
    let down : i + k - k ≡ i = omega arith in
    let whole : x * 2 ^ k ≡ x * 2 ^ k + 0 = omega arith in
    low_bit (x * 2 ^ k) 64 (i + k) within ∙ ap (λ y. bit_at y (i + k)) whole
    ∙ bit_at_cat_high x k 0 (i + k) (pow_pos k) (omega arith) ∙ ap (bit_at x) down

digit_and : (j a b : ℕ) → digit_in j (bit_and a b) ≡ bit_and (digit_in j a) (digit_in j b)
digit_and j a b = ap (λ x. x % 2 ^ 4) (and_shr a b (4 * j)) ∙ and_mod (a / 2 ^ (4 * j)) (b / 2 ^ (4 * j)) 4

digit_or : (j a b : ℕ) → digit_in j (bit_or a b) ≡ bit_or (digit_in j a) (digit_in j b)
digit_or j a b = ap (λ x. x % 2 ^ 4) (or_shr a b (4 * j)) ∙ or_mod (a / 2 ^ (4 * j)) (b / 2 ^ (4 * j)) 4

pub same_digit : (word digit : ℕ)
    → agree_below (λ j. digit_in j word == digit) (λ _. true) 16 ≡ true → (j : ℕ) → j < 16
    → digit_in j word ≡ digit
same_digit word digit tests j row = eqb-true _ _ (agree_below_at (λ j. digit_in j word == digit) (λ _. true) 16 j tests row)

-- the mask with bit `k` of each digit set
abbrev mask : ℕ → ℕ
mask k = 1229782938247303441 * 2 ^ k % 2 ^ 64

mask_digit : (k j : ℕ) → k < 4 → j < 16 → digit_in j (mask k) ≡ 2 ^ k
mask_digit zero j few = same_digit (mask 0) 1 refl j
mask_digit (suc zero) j few = same_digit (mask 1) 2 refl j
mask_digit (suc (suc zero)) j few = same_digit (mask 2) 4 refl j
mask_digit (suc (suc (suc zero))) j few = same_digit (mask 3) 8 refl j
mask_digit (suc (suc (suc (suc k)))) j few = absurd (omega arith)

rest_digit : (k j : ℕ) → k < 4 → j < 16 → digit_in j (2 ^ 64 - 1 - mask k) ≡ 15 - 2 ^ k
rest_digit zero j few = same_digit (2 ^ 64 - 1 - mask 0) 14 refl j
rest_digit (suc zero) j few = same_digit (2 ^ 64 - 1 - mask 1) 13 refl j
rest_digit (suc (suc zero)) j few = same_digit (2 ^ 64 - 1 - mask 2) 11 refl j
rest_digit (suc (suc (suc zero))) j few = same_digit (2 ^ 64 - 1 - mask 3) 7 refl j
rest_digit (suc (suc (suc (suc k)))) j few = absurd (omega arith)

-- Clearing bit `k` of the digit `d` and then setting it if bit `k` of `e` is set replaces bit `k` of `d` by that of
-- `e`.
merged : (d e k : ℕ) (bit : Bool) → k < 4 → d < 16 → bit_at e k ≡ bit_value bit
    → bit_or (bit_and d (15 - 2 ^ k)) (bit_and e (2 ^ k)) ≡ with_bit d k bit
merged d e k bit few small is =
    let parts : bit_and (15 - 2 ^ k) d + bit_and (2 ^ k) d ≡ d = and-not 4 (2 ^ k) d (pow_below k 4 few) small in
    let kept : bit_and d (15 - 2 ^ k)
    ≡ d - d / 2 ^ k % 2 * 2 ^ k = omega
    (arith, parts, and_comm d (15 - 2 ^ k), and_comm d (2 ^ k), and_pow d k) in
    let taken : bit_and e (2 ^ k) ≡ bit_value bit * 2 ^ k = and_pow e k ∙ ap (λ b. b * 2 ^ k) is in
    let rest = bit_and d (15 - 2 ^ k) in
    let cleared : bit_and rest (2 ^ k) ≡ 0 = and-not_self d 15 (2 ^ k) (2 ^ k) refl (omega (arith, pow_below k 4 few)) refl in
    let none : bit_and 0 e ≡ 0 = omega (arith, and_le_l 0 e) in
    let apart : bit_and rest (bit_and e (2 ^ k)) ≡ 0 =
    ap (bit_and rest) (and_comm e (2 ^ k)) ∙ sym (and_assoc e rest (2 ^ k)) ∙ ap (λ x. bit_and x e) cleared ∙ none in
    or_disjoint rest (bit_and e (2 ^ k)) apart ∙ (λ i. kept i + taken i)

-- The operation of `with_column` on a word replaces bit `k` of digit `j` by the column's bit for row `j`.
pub digit_with_column : (word column k j : ℕ) → k < 4 → j < 16 →
    digit_in j
    (bit_or (bit_and word (2 ^ 64 - 1 - mask k)) (bit_and (column * 2 ^ k % 2 ^ 64) (mask k)))
    ≡ with_bit (digit_in j word) k (digit_bit column (4 * j))
digit_with_column word column k j few row =
    let d = digit_in j word in
    let e = digit_in j (column * 2 ^ k % 2 ^ 64) in
    let bit : bit_at e k ≡ bit_value (digit_bit column (4 * j)) =
    field_bit (column * 2 ^ k % 2 ^ 64) (4 * j) 4 k few ∙ shifted_bit column k (4 * j) (omega arith)
    ∙ sym (bit_value-test (bit_at column (4 * j)) (bit_at-lt column (4 * j))) in
    digit_or j (bit_and word (2 ^ 64 - 1 - mask k)) (bit_and (column * 2 ^ k % 2 ^ 64) (mask k))
    ∙ (λ i. bit_or (digit_and j word (2 ^ 64 - 1 - mask k) i) (digit_and j (column * 2 ^ k % 2 ^ 64) (mask k) i))
    ∙ (λ i. bit_or (bit_and d (rest_digit k j few row i)) (bit_and e (mask_digit k j few row i)))
    ∙ merged d e k (digit_bit column (4 * j)) few (omega arith) bit

-- the number whose digits 0 to 3 have the four bits of the digit `d` as their lowest bits
abbrev spread : ℕ → ℕ
spread d = get_or (0 ∷ 1 ∷ 16 ∷ 17 ∷ 256 ∷ 257 ∷ 272 ∷ 273 ∷ 4096 ∷ 4097 ∷ 4112 ∷ 4113 ∷ 4352 ∷ 4353 ∷ 4368 ∷ 4369 ∷ []) d 0

spread-lt : (d : ℕ) → d < 16 → spread d < 2 ^ 16
spread-lt d small = ltb-true _ _ (agree_below_at (λ d. nat_lt (spread d) (2 ^ 16)) (λ _. true) 16 d refl small)

spread_bit : (d r : ℕ) → d < 16 → r < 4 → digit_bit (spread d) (4 * r) ≡ digit_bit d r
spread_bit d zero small few = agree_below_at (λ d. digit_bit (spread d) 0) (λ d. digit_bit d 0) 16 d refl small
spread_bit d (suc zero) small few = agree_below_at (λ d. digit_bit (spread d) 4) (λ d. digit_bit d 1) 16 d refl small
spread_bit d (suc (suc zero)) small few = agree_below_at (λ d. digit_bit (spread d) 8) (λ d. digit_bit d 2) 16 d refl small
spread_bit d (suc (suc (suc zero))) small few = agree_below_at (λ d. digit_bit (spread d) 12) (λ d. digit_bit d 3) 16 d refl small
spread_bit d (suc (suc (suc (suc r)))) small few = absurd (omega arith)

side_by_side : (k a b : ℕ) → a < 2 ^ k → b * 2 ^ k < 2 ^ 64 → bit_or a (b * 2 ^ k % 2 ^ 64) ≡ b * 2 ^ k + a
side_by_side k a b low fits = ap (bit_or a) (mod-eq_of_lt fits) ∙ or_shifted_r b k a low

-- the lowest digit of a number, spread to four digits
abbrev part : ℕ → ℕ
part n = spread (bit_and n 15)

part-lt : (n : ℕ) → part n < 2 ^ 16
part-lt n = spread-lt (bit_and n 15) (omega (arith, and_mask n 4))

-- four numbers of 16 bits joined in one word, with `a` lowest
abbrev joined : ℕ → ℕ → ℕ → ℕ → ℕ
joined a b c d = bit_or (bit_or a (b * 2 ^ 16 % 2 ^ 64)) (bit_or c (d * 2 ^ 16 % 2 ^ 64) * 2 ^ 32 % 2 ^ 64)

joined_is : (a b c d : ℕ) → a < 2 ^ 16 → b < 2 ^ 16 → c < 2 ^ 16 → d < 2 ^ 16
    → joined a b c d ≡ (d * 2 ^ 16 + c) * 2 ^ 32 + (b * 2 ^ 16 + a)
joined_is a b c d p q r s =
    (λ i. bit_or (side_by_side 16 a b p (omega arith) i) (side_by_side 16 c d r (omega arith) i * 2 ^ 32 % 2 ^ 64))
    ∙ side_by_side 32 (b * 2 ^ 16 + a) (d * 2 ^ 16 + c) (omega arith) (omega arith)

-- the word whose quarters are the four low digits of a number, each spread to 16 bits
abbrev spread_word : ℕ → ℕ
spread_word n = joined (part n) (part (n / 2 ^ 4)) (part (n / 2 ^ 8)) (part (n / 2 ^ 12))

spread_word-is : (n : ℕ) → spread_word n ≡ (part (n / 2 ^ 12) * 2 ^ 16 + part (n / 2 ^ 8)) * 2 ^ 32 + (part (n / 2 ^ 4) * 2 ^ 16 + part n)
spread_word-is n =
    joined_is (part n) (part (n / 2 ^ 4)) (part (n / 2 ^ 8)) (part (n / 2 ^ 12)) (part-lt n)
    (part-lt (n / 2 ^ 4)) (part-lt (n / 2 ^ 8)) (part-lt (n / 2 ^ 12))

quarter : (n q : ℕ) → q < 4 → spread_word n / 2 ^ (16 * q) % 2 ^ 16 ≡ part (n / 2 ^ (4 * q))
quarter n zero few = omega (arith, spread_word-is n, part-lt n) ∙ ap part (sym (div-one n))
quarter n (suc zero) few = omega (arith, spread_word-is n, part-lt n, part-lt (n / 2 ^ 4))
quarter n (suc (suc zero)) few = omega (arith, spread_word-is n, part-lt n, part-lt (n / 2 ^ 4), part-lt (n / 2 ^ 8))
quarter n (suc (suc (suc zero))) few =
    omega (
      arith,
      spread_word-is n,
      part-lt n,
      part-lt (n / 2 ^ 4),
      part-lt (n / 2 ^ 8),
      part-lt (n / 2 ^ 12),
    )
quarter n (suc (suc (suc (suc q)))) few = absurd (omega arith)

pub spread_word-bit : (n j : ℕ) → j < 16 → digit_bit (spread_word n) (4 * j) ≡ digit_bit n j
spread_word-bit n j row =
    let q = j / 4 in
    let r = j % 4 in
    let from : 4 * j ≡ 16 * q + 4 * r = omega arith in
    let to : 4 * q + r ≡ j = omega arith in
    ap (digit_bit (spread_word n)) from ∙ ap (λ b. b == 1) (sym (field_bit (spread_word n) (16 * q) 16 (4 * r) (omega arith)))
    ∙ ap (λ x. digit_bit x (4 * r)) (quarter n q (omega arith) ∙ ap spread (and_mask (n / 2 ^ (4 * q)) 4))
    ∙ spread_bit (n / 2 ^ (4 * q) % 2 ^ 4) r (omega arith) (omega arith)
    ∙ ap (λ b. b == 1) (field_bit n (4 * q) 4 r (omega arith)) ∙ ap (digit_bit n) to
