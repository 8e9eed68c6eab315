-- Lemmas about the compared bits of rows that are stored as the values of their hexadecimal digits. A loop over such a row notes the row's
-- number for each compared position that reads 1.
use Rattle.std.proofs.Common.{◌≡◌, ◌⊎◌, inl, inr, ℕ, ◌+◌, ◌<◌, ◌≤◌, ◌==◌, Bool, true, false, ◌&&◌, List, length, get_or, min, refl, sym, ap, ◌∙◌, subst, arith}
use Rattle.std.specs.Int.{bit_at}
use Rattle.std.specs.Int.Bits.{bit_and, bit_or}
use Rattle.std.proofs.lemmas.Bool.{eqb-true, cases_lt}
use Rattle.std.proofs.lemmas.Nat.{le_or_l, le_or_r}
use Rattle.std.proofs.lemmas.Nat.Bits.{bit_at-zero, bit_at_and}
use Rattle.bt_bits.specs.Digits.{digit_bit}
use Rattle.walk_test.specs.inner.Digits.{is_one, IsFresh, IsMarked}

pub clear_bit : (x m k : ℕ) → bit_and x m ≡ 0 → (digit_bit m k && digit_bit x k) ≡ false
clear_bit x m k none = by_test (bit_at m k == 1) (bit_at x k == 1) refl refl
  where
    low : min (bit_at x k) (bit_at m k) ≡ 0
    low = sym (bit_at_and x m k) ∙ ap (λ (n : ℕ). bit_at n k) none ∙ bit_at-zero k

    by_test : (b c : Bool) → (bit_at m k == 1) ≡ b → (bit_at x k == 1) ≡ c → (b && c) ≡ false
    by_test true true e f =
        let one = eqb-true (bit_at m k) 1 e in
        let other = eqb-true (bit_at x k) 1 f in
        absurd (omega (arith, low, one, other))
    by_test true false e f = refl
    by_test false c e f = refl

pub zeros_more : (f : ℕ → ℕ) (from union k : ℕ) → (union ≡ 0 → (i : ℕ) → from ≤ i → i < k → f i ≡ 0)
    → bit_or union (f k) ≡ 0 → (i : ℕ) → from ≤ i → i < k + 1 → f i ≡ 0
zeros_more f from union k zeros none i low less = by_side (cases_lt i k)
  where
    by_side : (i < k) ⊎ (k ≤ i) → f i ≡ 0
    by_side (inl before) = zeros (omega (arith, none, le_or_l union (f k))) i low before
    by_side (inr past) =
        let same : k ≡ i = omega (arith, past, less) in
        let zero_last : f k ≡ 0 = omega (arith, none, le_or_r union (f k)) in
        ap f (sym same) ∙ zero_last

pub union_more : (f : ℕ → ℕ) (union k : ℕ) → (((i : ℕ) → i < k → f i ≡ 0) → union ≡ 0)
    → ((i : ℕ) → i < k + 1 → f i ≡ 0) → bit_or union (f k) ≡ 0
union_more f union k zeros all =
    let before : union ≡ 0 = zeros (λ i less. all i (omega (arith, less))) in
    let last : f k ≡ 0 = all k (omega arith) in
    ap (λ (n : ℕ). bit_or n (f k)) before ∙ ap (λ (n : ℕ). bit_or 0 n) last

-- A loop step handles position `at` and skips to `next`. No position between the two is compared and reads 1.
module _ (row mask : List ℕ) (j none : ℕ) (old : List ℕ) (at next : ℕ) (past : at < next)
    (gap : (p : ℕ) → at < p → p < next → is_one row mask p ≡ false) where
  by_place : (P : ℕ → Type 0) (p : ℕ) → (p < at → P p) → P at → (at < p → P p) → P p
  by_place P p before here behind = by_side (cases_lt p at) (cases_lt at p)
    where
      by_side : (p < at) ⊎ (at ≤ p) → (at < p) ⊎ (p ≤ at) → P p
      by_side (inl less) k = before less
      by_side (inr low) (inl less) = behind less
      by_side (inr low) (inr high) = let same : at ≡ p = omega (arith, low, high) in subst P same here

  pub fresh_more : IsFresh row mask none old at
      → (at < length old → is_one row mask at ≡ true → get_or old at none ≡ none)
      → IsFresh row mask none old next
  fresh_more fresh here p less =
      by_place (λ q. q < length old → is_one row mask q ≡ true → get_or old q none ≡ none) p (fresh p) here
      (λ behind within one. let bad : true ≡ false = sym one ∙ gap p behind less in cc bad)

  module _ (now new : List ℕ) (left : (p : ℕ) → at ≤ p → get_or now p none ≡ get_or old p none)
      (others : (p : ℕ) → (p ≡ at → ⊥) → get_or new p none ≡ get_or now p none) where
    pub left_more : (p : ℕ) → next ≤ p → get_or new p none ≡ get_or old p none
    left_more p low = others p (λ same. omega (arith, past, low, same)) ∙ left p (omega (arith, past, low))

    pub marked_more : IsMarked row mask j none old now at
        → (at < length old → is_one row mask at ≡ true → get_or new at none ≡ j)
        → (is_one row mask at ≡ false → get_or new at none ≡ get_or now at none)
        → IsMarked row mask j none old new next
    marked_more marked one zero_bit = record {
      marked = λ p less. by_place (λ q. q < length old → is_one row mask q ≡ true → get_or new q none ≡ j) p
          (λ before within on. others p (λ same. omega (arith, before, same)) ∙ marked.marked p before within on)
          one
          (λ behind within on. let bad : true ≡ false = sym on ∙ gap p behind less in cc bad);
      kept = λ p less. by_place (λ q. is_one row mask q ≡ false → get_or new q none ≡ get_or old q none) p
          (λ before off. others p (λ same. omega (arith, before, same)) ∙ marked.kept p before off)
          (λ off. zero_bit off ∙ left at (omega arith))
          (λ behind off. others p (λ same. omega (arith, behind, same)) ∙ left p (omega (arith, behind)));
    }
