-- Lemmas about lists and the places of their items.
use Rattle.std.proofs.Common.{◌≡◌, ℕ, ◌<◌, List, map, length, ap, ◌∙◌, arith, get_or}
use Rattle.std.specs.List.{range_with_len}
use Rattle.std.proofs.lemmas.List.{length-map}
use Rattle.std.proofs.lemmas.List.FromFn.{length-range_with_len, get_or-map-range_with_len}

pub numbered_length : {X : Type 0} (f : ℕ → X) (xs : List X) (n i : ℕ) → xs ≡ map f (range_with_len 0 n) → i < n → i < length xs
numbered_length f xs n i e h =
    let l : length xs
    ≡ n = ap length e ∙ length-map (range_with_len 0 n) f ∙ length-range_with_len 0 n in
    omega (arith, l)

pub numbered_item : {X : Type 0} (f : ℕ → X) (xs : List X) (n i : ℕ) (d : X) → xs ≡ map f (range_with_len 0 n) → i < n → get_or xs i d ≡ f i
numbered_item f xs n i d e h = ap (λ ys. get_or ys i d) e ∙ get_or-map-range_with_len f 0 n i i d h (omega arith)
