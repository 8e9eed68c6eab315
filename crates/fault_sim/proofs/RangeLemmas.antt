-- Lemmas about ranges of numbers.
use Rattle.std.proofs.Common.{◌≡◌, ℕ, zero, suc, ◌+◌, ◌≤◌, Bool, true, false, cond, List, [], ◌∷◌, ◌++◌, length, map, refl, sym, ap, ◌∙◌, arith, add-one}
use Rattle.std.specs.Prelude.{filter}
use Rattle.std.specs.List.{flat_map, range_with_len}
use Rattle.std.proofs.lemmas.Grind.{flat_map-append}
use Rattle.std.proofs.lemmas.List.{append-nil, map-append}
use Rattle.lists.proofs.ListLemmas.{filter_below_more, range_with_len_more}

pub range_more : (a n : ℕ) → range_with_len a (n + 1) ≡ range_with_len a n ++ (a + n) ∷ []
range_more a n = ap (λ (k : ℕ). range_with_len a k) (add-one n) ∙ range_with_len_more a n

pub flat_more : {X : Type 0} (f : ℕ → List X) (a n k : ℕ) → k ≡ a + n
    → flat_map f (range_with_len a (n + 1)) ≡ flat_map f (range_with_len a n) ++ f k
flat_more {X} f a n k e =
    ap (λ (l : List ℕ). flat_map f l) (range_more a n)
    ∙ flat_map-append f (range_with_len a n) ((a + n) ∷ [])
    ∙ ap (λ (l : List X). flat_map f (range_with_len a n) ++ l) (append-nil (f (a + n)) ∙ sym (ap f e))

pub map_filter_more : {X : Type 0} (f : ℕ → X) (p : ℕ → Bool) (n : ℕ)
    → map f (filter p (range_with_len 0 (n + 1)))
    ≡ map f (filter p (range_with_len 0 n)) ++ cond (p n) (f n ∷ []) []
map_filter_more {X} f p n =
    ap (λ (l : List ℕ). map f l) (filter_below_more p n)
    ∙ map-append f (filter p (range_with_len 0 n)) (cond (p n) (n ∷ []) [])
    ∙ ap (λ (l : List X). map f (filter p (range_with_len 0 n)) ++ l) (by_test (p n))
  where
    by_test : (b : Bool) → map f (cond b (n ∷ []) []) ≡ cond b (f n ∷ []) []
    by_test true = refl
    by_test false = refl

pub filter_most : (p : ℕ → Bool) (a n : ℕ) → length (filter p (range_with_len a n)) ≤ n
filter_most p a zero = omega arith
filter_most p a (suc n) = by_test (p a) (filter_most p (a + 1) n)
  where
    by_test : (b : Bool) → length (filter p (range_with_len (a + 1) n)) ≤ n
        → length
        (cond b (a ∷ filter p (range_with_len (a + 1) n)) (filter p (range_with_len (a + 1) n)))
        ≤ suc n
    by_test true h = omega (arith, h)
    by_test false h = omega (arith, h)
