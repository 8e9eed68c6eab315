-- Proofs that the digits of a row of a log have the row's bits at the compared positions.
use Rattle.std.proofs.Common.{◌≡◌, ◌⊎◌, inl, inr, ℕ, zero, suc, ◌+◌, ◌*◌, ◌/◌, ◌%◌, ◌<◌, ◌≤◌, ◌==◌, ◌^◌, Bool, true, false, ◌&&◌, List, [], ◌∷◌, length, get_or, min, Decides, refl, sym, ap, ◌∙◌, arith}
use Rattle.std.specs.Int.{bit_at}
use Rattle.std.specs.Int.Bits.{bit_and, bit_xor}
use Rattle.std.proofs.lemmas.Bool.{eqb-true, cases_lt, and_parts}
use Rattle.std.proofs.lemmas.List.{get_or_past}
use Rattle.std.proofs.lemmas.Nat.Bits.{bit_at-zero, bit_at-lt, bit_at_and, bit_at_xor, bit_at_above, same_from_bits}
use Rattle.bt_bits.specs.Digits.{digit_bit, digit_value, digits_of}
use Rattle.bt_bits.specs.Hex.{digit_count}
use Rattle.bt_bits.proofs.DigitLemmas.{bit_value-le, length-digits_of, digits_of-below, digits_of-get}
use Rattle.response_log.specs.Kept.{AreRowDigits}
use Rattle.response_log.specs.LogRows.{bit_in}
use Rattle.walk_test.specs.inner.Digits.{digit_bit_at, is_one, differing, IsFresh, IsMarked}
use Rattle.walk_test.specs.inner.Reading.{ReadTheSame, StartsGroup, AreStarted}

bit_off : (n k : ℕ) → n / 2 ^ k % 2 ≡ 0 → digit_bit n k ≡ false
bit_off n k is = ap (λ (m : ℕ). m == 1) is

past_one : (x i : ℕ) → digit_bit_at (x ∷ []) (suc (suc (suc (suc i)))) ≡ false
past_one x i =
    let place : suc (suc (suc (suc i))) / 4 ≡ suc (i / 4) = omega arith in
    let k : ℕ = suc (suc (suc (suc i))) % 4 in
    ap (λ (p : ℕ). digit_bit (get_or (x ∷ []) p 0) k) place ∙ bit_off 0 k (bit_at-zero k)

digits_past : (bits : List Bool) (i : ℕ) → length bits ≤ i → digit_bit_at (digits_of bits) i ≡ false
digits_past [] i low = bit_off 0 (i % 4) (bit_at-zero (i % 4))
digits_past (a ∷ []) zero low = absurd (omega arith)
digits_past (a ∷ []) (suc zero) low =
    let n : digit_value a false false false / 2 ^ 1 % 2 ≡ 0 = omega (arith, bit_value-le a) in
    bit_off (digit_value a false false false) 1 n
digits_past (a ∷ []) (suc (suc zero)) low =
    let n : digit_value a false false false / 2 ^ 2 % 2 ≡ 0 = omega (arith, bit_value-le a) in
    bit_off (digit_value a false false false) 2 n
digits_past (a ∷ []) (suc (suc (suc zero))) low =
    let n : digit_value a false false false / 2 ^ 3 % 2 ≡ 0 = omega (arith, bit_value-le a) in
    bit_off (digit_value a false false false) 3 n
digits_past (a ∷ []) (suc (suc (suc (suc i)))) low = past_one (digit_value a false false false) i
digits_past (a ∷ b ∷ []) zero low = absurd (omega arith)
digits_past (a ∷ b ∷ []) (suc zero) low = absurd (omega arith)
digits_past (a ∷ b ∷ []) (suc (suc zero)) low =
    let n : digit_value a b false false / 2 ^ 2 % 2
    ≡ 0 = omega (arith, bit_value-le a, bit_value-le b) in
    bit_off (digit_value a b false false) 2 n
digits_past (a ∷ b ∷ []) (suc (suc (suc zero))) low =
    let n : digit_value a b false false / 2 ^ 3 % 2
    ≡ 0 = omega (arith, bit_value-le a, bit_value-le b) in
    bit_off (digit_value a b false false) 3 n
digits_past (a ∷ b ∷ []) (suc (suc (suc (suc i)))) low = past_one (digit_value a b false false) i
digits_past (a ∷ b ∷ c ∷ []) zero low = absurd (omega arith)
digits_past (a ∷ b ∷ c ∷ []) (suc zero) low = absurd (omega arith)
digits_past (a ∷ b ∷ c ∷ []) (suc (suc zero)) low = absurd (omega arith)
digits_past (a ∷ b ∷ c ∷ []) (suc (suc (suc zero))) low =
    let n : digit_value a b c false / 2 ^ 3 % 2
    ≡ 0 = omega (arith, bit_value-le a, bit_value-le b, bit_value-le c) in
    bit_off (digit_value a b c false) 3 n
digits_past (a ∷ b ∷ c ∷ []) (suc (suc (suc (suc i)))) low = past_one (digit_value a b c false) i
digits_past (a ∷ b ∷ c ∷ d ∷ bits) zero low = absurd (omega arith)
digits_past (a ∷ b ∷ c ∷ d ∷ bits) (suc zero) low = absurd (omega arith)
digits_past (a ∷ b ∷ c ∷ d ∷ bits) (suc (suc zero)) low = absurd (omega arith)
digits_past (a ∷ b ∷ c ∷ d ∷ bits) (suc (suc (suc zero))) low = absurd (omega arith)
digits_past (a ∷ b ∷ c ∷ d ∷ bits) (suc (suc (suc (suc i)))) low =
    let place : suc (suc (suc (suc i))) / 4 ≡ suc (i / 4) = omega arith in
    let bit : suc (suc (suc (suc i))) % 4 ≡ i % 4 = omega arith in
    ap (λ p. digit_bit (get_or (digits_of (a ∷ b ∷ c ∷ d ∷ bits)) p 0) (suc (suc (suc (suc i))) % 4)) place
    ∙ ap (λ k. digit_bit (get_or (digits_of bits) (i / 4) 0) k) bit ∙ digits_past bits i (omega (arith, low))

pub mask_within : (mask : List Bool) (at : ℕ) → get_or mask at false ≡ true → at < length mask
mask_within mask at on = by_side (cases_lt at (length mask))
  where
    by_side : (at < length mask) ⊎ (length mask ≤ at) → at < length mask
    by_side (inl less) = less
    by_side (inr past) = let bad : false ≡ true = sym (get_or_past mask at false past) ∙ on in cc bad

-- `mask` has a 1 at each compared position, and `marks` has the values of its hexadecimal digits
module _ (mask : List Bool) (marks : List ℕ) (are : marks ≡ digits_of mask) where
  mark_bit : (at : ℕ) → digit_bit_at marks at ≡ get_or mask at false
  mark_bit at = ap (λ (l : List ℕ). digit_bit_at l at) are ∙ by_side (cases_lt at (length mask))
    where
      by_side : (at < length mask) ⊎ (length mask ≤ at) → digit_bit_at (digits_of mask) at ≡ get_or mask at false
      by_side (inl less) = digits_of-get mask at less
      by_side (inr past) = digits_past mask at past ∙ sym (get_or_past mask at false past)

  pub marks_count : length marks ≡ digit_count (length mask)
  marks_count = ap length are ∙ length-digits_of mask

  marks_below : (k : ℕ) → k < length marks → get_or marks k 0 < 16
  marks_below k less =
      let same : get_or marks k 0 ≡ get_or (digits_of mask) k 0 = ap (λ (l : List ℕ). get_or l k 0) are in
      omega (arith, same, digits_of-below mask k 0 (omega (arith, less, ap length are)))

-- a row of a log that is as long as the mask
module _ (log : List (List Bool)) (mask : List Bool) (marks : List ℕ) (are : marks ≡ digits_of mask)
    (j : ℕ) (row : List ℕ) (digits : AreRowDigits (get_or log j []) row)
    (long : length (get_or log j []) ≡ length mask) where
  pub row_count : length row ≡ length marks
  row_count = digits.count ∙ ap digit_count long ∙ sym (marks_count mask marks are)

  row_bit : (at : ℕ) → get_or mask at false ≡ true → digit_bit_at row at ≡ bit_in log j at
  row_bit at on = sym (digits.bits at (omega (arith, mask_within mask at on, long)))

  one_is : (at : ℕ) (b : Bool) → get_or mask at false ≡ true → bit_in log j at ≡ b → is_one row marks at ≡ b
  one_is at b on is = ap (λ (m : Bool). m && digit_bit_at row at) (mark_bit mask marks are at ∙ on) ∙ row_bit at on ∙ is

  is_one_on : (at : ℕ) → is_one row marks at ≡ true → (get_or mask at false ≡ true) × (bit_in log j at ≡ true)
  is_one_on at one =
      let r = and_parts (digit_bit_at marks at) (digit_bit_at row at) one in
      let on : get_or mask at false ≡ true = sym (mark_bit mask marks are at) ∙ r.0 in
      (on, sym (row_bit at on) ∙ r.1)

  one_read : (at : ℕ) → is_one row marks at ≡ (get_or mask at false && bit_in log j at)
  one_read at = by_test (get_or mask at false) refl
    where
      by_test : (m : Bool) → get_or mask at false ≡ m → is_one row marks at ≡ (m && bit_in log j at)
      by_test true on = one_is at (bit_in log j at) on refl
      by_test false off = ap (λ (m : Bool). m && digit_bit_at row at) (mark_bit mask marks are at ∙ off)

  pub not_started : (own none : ℕ) (old : List ℕ) (t : Bool) → t ≡ is_one row marks own → t ≡ false
      → Decides t (StartsGroup log mask j own none old)
  not_started own none old t is off = (λ e. let bad : true ≡ false = sym e ∙ off in cc bad, λ s. is ∙ one_read own ∙ s.is_read)

  -- `old` has, for each position, the number of the row that has been noted for it, or `none`. If position `own` is compared and reads 1 in
  -- row j, a group starts in row j if and only if `old` has `none` for each compared position that reads 1 in this row.
  module _ (none : ℕ) (old : List ℕ) (count : length old ≡ length mask) where
    pub starts : (own : ℕ) → is_one row marks own ≡ true → (t : Bool)
        → Decides t (IsFresh row marks none old (length old))
        → Decides t (StartsGroup log mask j own none old)
    starts own one t d = (
      λ e. record {
        is_read = sym (one_read own)
            ∙ one;
        fresh = λ at on one. (d.0 e) at (omega (arith, mask_within mask at on, count))
            (omega (arith, mask_within mask at on, count)) (one_is at true on one);
      },
      λ s. d.1 (λ at less same one. let r = is_one_on at one in s.fresh at r.0 r.1),
    )

    pub started : (new : List ℕ) → IsMarked row marks j none old new (length old) → AreStarted log mask j none old new
    started new m = record {
      marked =
          λ at on one. m.marked at (omega (arith, mask_within mask at on, count))
          (omega (arith, mask_within mask at on, count)) (one_is at true on one);
      kept = λ at on off. m.kept at (omega (arith, mask_within mask at on, count)) (one_is at false on off);
    }

-- The digits `a` and `b` agree at each bit that is 1 in the mask digit `m` if and only if `a xor b`, masked with `m`, is 0.
module _ (a b m k : ℕ) where
  masked_same : bit_and (bit_xor a b) m ≡ 0 → digit_bit m k ≡ true → digit_bit a k ≡ digit_bit b k
  masked_same none on =
      let one : bit_at m k ≡ 1 = eqb-true (bit_at m k) 1 on in
      let zero_bit : min (bit_at (bit_xor a b) k) (bit_at m k)
      ≡ 0 = sym (bit_at_and (bit_xor a b) m k) ∙ ap (λ (n : ℕ). bit_at n k) none
      ∙ bit_at-zero k in
      let even : bit_at (bit_xor a b) k ≡ 0 = omega (arith, zero_bit, one) in
      let sum : (bit_at a k + bit_at b k) % 2 ≡ 0 = sym (bit_at_xor a b k) ∙ even in
      let same : bit_at a k ≡ bit_at b k = omega (arith, sum, bit_at-lt a k, bit_at-lt b k) in
      ap (λ (n : ℕ). n == 1) same

  same_masked : (digit_bit m k ≡ true → digit_bit a k ≡ digit_bit b k) → bit_at (bit_and (bit_xor a b) m) k ≡ 0
  same_masked same = bit_at_and (bit_xor a b) m k ∙ by_test (bit_at m k == 1) refl
    where
      equal : (x y : ℕ) → x < 2 → y < 2 → (x == 1) ≡ (y == 1) → x ≡ y
      equal zero zero p q e = refl
      equal zero (suc zero) p q e = cc e
      equal (suc zero) zero p q e = cc e
      equal (suc zero) (suc zero) p q e = refl
      equal (suc (suc x)) y p q e = absurd (omega (arith, p))
      equal x (suc (suc y)) p q e = absurd (omega (arith, q))

      by_test : (t : Bool) → (bit_at m k == 1) ≡ t → min (bit_at (bit_xor a b) k) (bit_at m k) ≡ 0
      by_test true e =
          let is : bit_at a k ≡ bit_at b k = equal (bit_at a k) (bit_at b k) (bit_at-lt a k) (bit_at-lt b k) (same e) in
          let even : bit_at (bit_xor a b) k ≡ 0 = omega (arith, bit_at_xor a b k, is, bit_at-lt a k) in
          omega (arith, even)
      by_test false e =
          let off : bit_at m k ≡ 0 = equal (bit_at m k) 0 (bit_at-lt m k) (omega arith) e in
          omega (arith, off)

module _ (log : List (List Bool)) (mask : List Bool) (marks : List ℕ) (are : marks ≡ digits_of mask)
    (j other : ℕ) (row its : List ℕ) (digits : AreRowDigits (get_or log j []) row)
    (its_digits : AreRowDigits (get_or log other []) its)
    (long : length (get_or log j []) ≡ length mask)
    (its_long : length (get_or log other []) ≡ length mask) where
  pub same_rows : (t : Bool)
      → Decides t ((k : ℕ) → k < length marks → differing row its marks k ≡ 0)
      → Decides t (ReadTheSame log mask j other)
  same_rows t d = (λ e at on. to (d.0 e) at on, λ same. d.1 (from same))
    where
      to : ((k : ℕ) → k < length marks → differing row its marks k ≡ 0) → ReadTheSame log mask j other
      to none at on =
          sym (row_bit log mask marks are j row digits long at on)
          ∙ masked_same (get_or row (at / 4) 0) (get_or its (at / 4) 0) (get_or marks (at / 4) 0) (at % 4)
          (none (at / 4) (omega (arith, mask_within mask at on, marks_count mask marks are))) (mark_bit mask marks are at ∙ on)
          ∙ row_bit log mask marks are other its its_digits its_long at on

      from : ReadTheSame log mask j other → (k : ℕ) → k < length marks → differing row its marks k ≡ 0
      from same k less = same_from_bits (differing row its marks k) 0 (λ i. each i (cases_lt i 4) ∙ sym (bit_at-zero i))
        where
          place : (i : ℕ) → i < 4 → (k * 4 + i) / 4 ≡ k
          place i low = omega (arith, low)

          bit : (i : ℕ) → i < 4 → (k * 4 + i) % 4 ≡ i
          bit i low = omega (arith, low)

          of : (l : List ℕ) (i : ℕ) → i < 4 → digit_bit_at l (k * 4 + i) ≡ digit_bit (get_or l k 0) i
          of l i low =
              ap (λ (p : ℕ). digit_bit (get_or l p 0) ((k * 4 + i) % 4)) (place i low)
              ∙ ap (λ (q : ℕ). digit_bit (get_or l k 0) q) (bit i low)

          each : (i : ℕ) → (i < 4) ⊎ (4 ≤ i) → bit_at (differing row its marks k) i ≡ 0
          each i (inl low) =
              same_masked (get_or row k 0) (get_or its k 0) (get_or marks k 0) i
              (λ on.
              let at_on : get_or mask (k * 4 + i) false ≡ true = sym (mark_bit mask marks are (k * 4 + i)) ∙ of marks i low ∙ on in
              sym (of row i low) ∙ row_bit log mask marks are j row digits long (k * 4 + i) at_on ∙
              same (k * 4 + i) at_on ∙ sym
              (row_bit log mask marks are other its its_digits its_long (k * 4 + i) at_on) ∙ of
              its i low)
          each i (inr high) =
              let off : bit_at (get_or marks k 0) i ≡ 0 = bit_at_above (get_or marks k 0) 4 i (marks_below mask marks are k less) high in
              bit_at_and (bit_xor (get_or row k 0) (get_or its k 0)) (get_or marks k 0) i ∙ least off
            where
              least : bit_at (get_or marks k 0) i ≡ 0
                  → min (bit_at (bit_xor (get_or row k 0) (get_or its k 0)) i)
                  (bit_at (get_or marks k 0) i) ≡ 0
              least off = omega (arith, off)
