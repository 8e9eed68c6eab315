-- Lemmas about lists and the places of their items.
use Rattle.std.proofs.Common.{◌≡◌, ℕ, ◌+◌, ◌-◌, List, [], ◌∷◌, ◌++◌, length, map, replicate, take, Option, refl, ap, ◌∙◌, arith, add-one}
use Rattle.std.specs.Prelude.{filter_map}
use Rattle.std.specs.List.{range_with_len, cons_option}
use Rattle.std.proofs.Math.Seq.{take-nil}
use Rattle.std.proofs.lemmas.List.Elements.{filter_map-append}
use Rattle.lists.proofs.ListLemmas.{below_more}

pub filter_map_more : {X : Type 0} (f : ℕ → Option X) (k : ℕ)
    → filter_map f (range_with_len 0 (k + 1))
    ≡ filter_map f (range_with_len 0 k) ++ cons_option (f k) []
filter_map_more f k =
    ap (λ n. filter_map f (range_with_len 0 n)) (add-one k) ∙ ap (filter_map f) (below_more k)
    ∙ filter_map-append f (range_with_len 0 k) (k ∷ [])

replicate_each : {X Y : Type 0} (y : Y) (xs : List X) → replicate (length xs) y ≡ map (λ x. y) xs
replicate_each y [] = refl
replicate_each y (x ∷ xs) = ap (λ ys. y ∷ ys) (replicate_each y xs)

pub resized_each : {X Y : Type 0} (y : Y) (xs : List X) (before : List Y) (k : ℕ) → before ≡ []
    → k ≡ 0 → take (length xs) before ++ replicate (length xs - k) y ≡ map (λ x. y) xs
resized_each {X} {Y} y xs before k empty none =
    let all : length xs - k ≡ length xs = omega (arith, none) in
    ap (λ (ys : List Y). take (length xs) ys ++ replicate (length xs - k) y) empty
    ∙ ap (λ (ys : List Y). ys ++ replicate (length xs - k) y) (take-nil {A = Y} (length xs))
    ∙ ap (λ (n : ℕ). replicate n y) all
    ∙ replicate_each y xs
