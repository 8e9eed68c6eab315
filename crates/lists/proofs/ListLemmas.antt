-- Lemmas about lists and their indexes that std does not have (std has `slice_get_within`, `length_push`,
-- `list_any-append` and others).
use Rattle.std.proofs.Common.{◌≡◌, ℕ, zero, suc, ◌+◌, ◌<◌, Bool, true, false, cond, ◌||◌, List, [], ◌∷◌, ◌++◌, length, map, replicate, Some, refl, ap, ◌∙◌, arith, add-one}
use Rattle.std.specs.Prelude.{slice_get, filter}
use Rattle.std.specs.List.{list_any, position_from, range_with_len}
use Rattle.std.proofs.lemmas.Bool.{or_left, or_right}
use Rattle.std.proofs.lemmas.List.Elements.{filter-append}
use Rattle.std.proofs.lemmas.List.Folds.{list_any-append}

pub item_there : {X : Type 0} (xs : List X) (i : ℕ) → i < length xs → (x : X) × (slice_get xs i ≡ Some x)
item_there [] i h = absurd (omega (arith, h))
item_there (x ∷ xs) zero h = (x, refl)
item_there (x ∷ xs) (suc i) h = item_there xs i (omega (arith, h))

pub map-map : {X Y Z : Type 0} (f : X → Y) (g : Y → Z) (xs : List X) → map g (map f xs) ≡ map (λ x. g (f x)) xs
map-map f g [] = refl
map-map {Z = Z} f g (x ∷ xs) = ap (λ (zs : List Z). g (f x) ∷ zs) (map-map f g xs)

pub position_from-map : {X Y : Type 0} (f : X → Y) (p : Y → Bool) (n : ℕ) (xs : List X)
    → position_from (λ x. p (f x)) n xs ≡ position_from p n (map f xs)
position_from-map f p n [] = refl
position_from-map f p n (x ∷ xs) = ap (cond (p (f x)) (Some n)) (position_from-map f p (n + 1) xs)

pub list_any-map : {X Y : Type 0} (f : X → Y) (p : Y → Bool) (xs : List X) → list_any p (map f xs) ≡ list_any (λ x. p (f x)) xs
list_any-map f p [] = refl
list_any-map f p (x ∷ xs) = ap (λ b. p (f x) || b) (list_any-map f p xs)

pub list_any_same : {X : Type 0} (p q : X → Bool) → ((x : X) → p x ≡ q x) → (xs : List X) → list_any p xs ≡ list_any q xs
list_any_same p q h [] = refl
list_any_same p q h (x ∷ xs) = ap (λ b. b || list_any p xs) (h x) ∙ ap (λ b. q x || b) (list_any_same p q h xs)

pub list_any_before : {X : Type 0} (p : X → Bool) (xs : List X) (x : X) → list_any p xs ≡ true → list_any p (xs ++ x ∷ []) ≡ true
list_any_before p xs x h = list_any-append p xs (x ∷ []) ∙ or_left (list_any p xs) (list_any p (x ∷ [])) h

pub list_any_last : {X : Type 0} (p : X → Bool) (xs : List X) (x : X) → p x ≡ true → list_any p (xs ++ x ∷ []) ≡ true
list_any_last p xs x h = list_any-append p xs (x ∷ []) ∙ or_right (list_any p xs) (p x || false) (or_left (p x) false h)

pub none_of_zeros : (n : ℕ) → list_any (λ bit. bit) (replicate n false) ≡ false
none_of_zeros zero = refl
none_of_zeros (suc n) = none_of_zeros n

pub range_with_len_more : (a n : ℕ) → range_with_len a (suc n) ≡ range_with_len a n ++ (a + n) ∷ []
range_with_len_more a zero = ap (λ k. k ∷ []) (omega arith)
range_with_len_more a (suc n) =
    ap (λ ks. a ∷ ks)
    (range_with_len_more (a + 1) n ∙ ap (λ k. range_with_len (a + 1) n ++ k ∷ []) (omega arith))

pub below_more : (n : ℕ) → range_with_len 0 (suc n) ≡ range_with_len 0 n ++ n ∷ []
below_more n = range_with_len_more 0 n ∙ ap (λ k. range_with_len 0 n ++ k ∷ []) (omega arith)

pub filter_below_more : (p : ℕ → Bool) (n : ℕ)
    → filter p (range_with_len 0 (n + 1)) ≡ filter p (range_with_len 0 n) ++ cond (p n) (n ∷ []) []
filter_below_more p n =
    ap (λ k. filter p (range_with_len 0 k)) (add-one n) ∙ ap (filter p) (below_more n)
    ∙ filter-append p (range_with_len 0 n) (n ∷ [])
