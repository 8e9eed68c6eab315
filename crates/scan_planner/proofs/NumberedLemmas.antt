-- Lemmas about lists in which each item has a property that depends on the item's place.
use Rattle.std.proofs.Common.{◌≡◌, ℕ, zero, suc, List, [], ◌∷◌, ◌++◌, length, Some, subst}
use Rattle.std.specs.Prelude.{slice_get}

pub each_more : {A : Type 0} (P : ℕ → A → Type 0) (xs : List A) (y : A)
    → ((i : ℕ) (x : A) → slice_get xs i ≡ Some x → P i x) → P (length xs) y → (i : ℕ) (x : A)
    → slice_get (xs ++ y ∷ []) i ≡ Some x → P i x
each_more P [] y all last zero x at = subst (P 0) (cc at) last
each_more P [] y all last (suc i) x at = cc at
each_more P (z ∷ xs) y all last zero x at = all 0 x at
each_more P (z ∷ xs) y all last (suc i) x at = each_more (λ k v. P (suc k) v) xs y (λ k v e. all (suc k) v e) last i x at
