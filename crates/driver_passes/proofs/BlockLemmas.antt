-- Lemmas about sets of places in the list of useful controls. Place `n` has bit `n % 64` of word `n / 64`. A
-- set is a list of blocks, and each block has places that belong to one word. A control is useful if it is
-- safe alone and enables a tested driver.
use Rattle.std.proofs.Common.{◌≡◌, ◌⊎◌, inl, inr, ℕ, ◌+◌, ◌*◌, ◌/◌, ◌%◌, ◌^◌, ◌<◌, Bool, ◌&&◌, ◌||◌, List, [], ◌∷◌, ◌++◌, ap, bit_or, false, ltb, sym, ◌∙◌, arith}
use Rattle.std.specs.Prelude.{◌==◌}
use Rattle.std.proofs.Math.Bool.{and-false, and-or_distrib_left, or_comm, or-false}
use Rattle.std.proofs.lemmas.Bool.{cases_eq, cases_order, eq-eqb, le-ltb, lt-ltb, ne_eqb}
use Rattle.std.proofs.lemmas.List.Folds.{list_any-append}
use Rattle.driver_passes.specs.declared.blocks.Block.{Block}
use Rattle.driver_passes.specs.inner.Blocks.{block_has, has_place}
use Rattle.driver_passes.specs.inner.NumberSets.{has_bit, is_of_word}
use Rattle.driver_passes.proofs.NumberSetLemmas.{bit_more, no_bit, one_number}

pub same_place : (a b : ℕ) → (a == b) ≡ (b == a)
same_place a b = by_case (cases_eq a b)
  where
    by_case : (a ≡ b) ⊎ (a ≡ b → ⊥) → (a == b) ≡ (b == a)
    by_case (inl e) = eq-eqb a b e ∙ sym (eq-eqb b a (sym e))
    by_case (inr differ) = ne_eqb a b differ ∙ sym (ne_eqb b a (λ e. differ (sym e)))

pub below_more : (p : ℕ → Bool) (k n : ℕ) → ((n == k && p k) || (ltb n k && p n)) ≡ (ltb n (k + 1) && p n)
below_more p k n = by_order (cases_order n k)
  where
    by_order : (n ≡ k) ⊎ ((n < k) ⊎ (k < n)) → ((n == k && p k) || (ltb n k && p n)) ≡ (ltb n (k + 1) && p n)
    by_order (inl same) =
        ap (λ t. (t && p k) || (ltb n k && p n)) (eq-eqb n k same)
        ∙ ap (λ t. p k || (t && p n)) (le-ltb n k (omega (arith, same))) ∙ or-false (p k)
        ∙ ap p (sym same) ∙ sym (ap (λ t. t && p n) (lt-ltb n (k + 1) (omega (arith, same))))
    by_order (inr (inl less)) =
        ap (λ t. (t && p k) || (ltb n k && p n)) (ne_eqb n k (λ e. omega (arith, e, less)))
        ∙ ap (λ t. t && p n) (lt-ltb n k less ∙ sym (lt-ltb n (k + 1) (omega (arith, less))))
    by_order (inr (inr more)) =
        ap (λ t. (t && p k) || (ltb n k && p n)) (ne_eqb n k (λ e. omega (arith, e, more)))
        ∙ ap (λ t. t && p n)
        (le-ltb n k (omega (arith, more)) ∙ sym (le-ltb n (k + 1) (omega (arith, more))))

pub one_place : (place q : ℕ) → is_of_word (place / 64) (1 * 2 ^ (place % 64) % 2 ^ 64) q ≡ (place == q)
one_place place q = one_number place q ∙ same_place q place

pub place_more : (word bits place q : ℕ) → place / 64 ≡ word
    → is_of_word word (bit_or bits (1 * 2 ^ (place % 64) % 2 ^ 64)) q
    ≡ (is_of_word word bits q || place == q)
place_more word bits place q e =
    let bit : ℕ = 1 * 2 ^ (place % 64) % 2 ^ 64 in
    ap (λ t. q / 64 == word && t) (bit_more bits bit (q % 64))
    ∙ and-or_distrib_left (q / 64 == word) (has_bit bit (q % 64)) (has_bit bits (q % 64)) ∙
    ap (λ t. t || is_of_word word bits q) (sym (ap (λ w. is_of_word w bit q) e) ∙ one_place place q)
    ∙ or_comm (place == q) (is_of_word word bits q)

pub no_place : (word bits q : ℕ) → bits ≡ 0 → is_of_word word bits q ≡ false
no_place word bits q e = ap (λ t. q / 64 == word && t) (ap (λ b. has_bit b (q % 64)) e ∙ no_bit (q % 64)) ∙ and-false (q / 64 == word)

pub block_more : (blocks : List Block) (block : Block) (q : ℕ)
    → has_place (blocks ++ block ∷ []) q ≡ (has_place blocks q || block_has block q)
block_more blocks block q =
    let has : Block → Bool = λ b. block_has b q in
    list_any-append has blocks (block ∷ []) ∙ ap (λ t. has_place blocks q || t) (or-false (block_has block q))
