-- Lists in some order: each item precedes each later one.
use Rattle.std.proofs.Common.{◌≡◌, ℕ, zero, suc, ◌+◌, ◌<◌, ◌≤◌, Bool, true, false, List, [], ◌∷◌, ◌++◌, length, get_or, map, Some, refl, ap, subst, arith, cond, ◌⊎◌, inl, inr}
use Rattle.std.specs.Prelude.{slice_get, filter, AllPairs}
use Rattle.std.specs.List.{flat_map, enumerate_from, range_with_len}
use Rattle.std.proofs.lemmas.Option.{get_or_from_slice_get, slice_get-get_or, slice_get_within}
use Rattle.board_defs.specs.Passes.{pairs_within}
use Rattle.board_defs.proofs.Members.{Has, has_at, has_place, has_append, map_has, flat_map_has, filter_has, range_has, enumerate_has}

-- each item precedes each later one
abbrev pub InOrder : {X : Type 0} → (X → X → Type 0) → List X → Type 0
InOrder R [] = Unit {0}
InOrder {X} R (x ∷ xs) = ((y : X) → Has xs y → R x y) × InOrder R xs

pub order_pairs : {X : Type 0} (R : X → X → Type 0) (xs : List X) → InOrder R xs → AllPairs R xs
order_pairs R [] h i j d less within = absurd (omega arith)
order_pairs R (x ∷ xs) h i zero d less within = absurd (omega arith)
order_pairs {X} R (x ∷ xs) h zero (suc j) d less within =
    let inside : j < length xs = omega arith in
    h.0 (get_or xs j d) (has_at xs j (get_or xs j d) (slice_get-get_or xs j d inside))
order_pairs R (x ∷ xs) h (suc i) (suc j) d less within = order_pairs R xs h.1 i j d (omega arith) (omega arith)

pub pairs_order : {X : Type 0} (R : X → X → Type 0) (xs : List X) → AllPairs R xs → InOrder R xs
pairs_order R [] pairs = tt
pairs_order {X} R (x ∷ xs) pairs = (
  λ y has. let at = has_place xs y has in
      before y at.0 at.1,
  pairs_order R xs
      (λ i j d less within. pairs (suc i) (suc j) d (omega (arith, less))
      (omega (arith, within))),
)
  where
    before : (y : X) (k : ℕ) → slice_get xs k ≡ Some y → R x y
    before y k at =
        subst (λ (z : X). R x z) (get_or_from_slice_get xs k y y at)
        (pairs 0 (suc k) y (omega arith) (omega (arith, slice_get_within xs k y at)))

pub order_append : {X : Type 0} (R : X → X → Type 0) (xs ys : List X) → InOrder R xs → InOrder R ys
    → ((x y : X) → Has xs x → Has ys y → R x y) → InOrder R (xs ++ ys)
order_append R [] ys h k across = k
order_append {X} R (x ∷ xs) ys h k across = (
  λ y m. by_part y (has_append xs ys y m),
  order_append R xs ys h.1 k (λ a b ha hb. across a b (inr ha) hb),
)
  where
    by_part : (y : X) → Has xs y ⊎ Has ys y → R x y
    by_part y (inl m) = h.0 y m
    by_part y (inr m) = across x y (inl refl) m

-- If a list is in order, `f` gives an ordered list for each of its items, and the items of `f x` precede those of `f z`
-- whenever `x` precedes `z`, then the joined lists are in order.
pub order_flat_map : {X Y : Type 0} (S : X → X → Type 0) (R : Y → Y → Type 0) (f : X → List Y)
    (xs : List X) → InOrder S xs → ((x : X) → Has xs x → InOrder R (f x)) →
    ((x z : X) → S x z → (a b : Y) → Has (f x) a → Has (f z) b → R a b) → InOrder R (flat_map f xs)
order_flat_map S R f [] h each across = tt
order_flat_map {X} {Y} S R f (x ∷ xs) h each across =
    order_append R (f x) (flat_map f xs) (each x (inl refl)) (order_flat_map S R f xs h.1 (λ z m. each z (inr m)) across)
    (λ a b ha hb. let r = flat_map_has f xs b hb in across x r.0 (h.0 r.0 r.1) a b ha r.2)

pub order_filter : {X : Type 0} (R : X → X → Type 0) (p : X → Bool) (xs : List X) → InOrder R xs → InOrder R (filter p xs)
order_filter R p [] h = tt
order_filter {X} R p (x ∷ xs) h = by_test (p x) (order_filter R p xs h.1)
  where
    by_test : (b : Bool) → InOrder R (filter p xs) → InOrder R (cond b (x ∷ filter p xs) (filter p xs))
    by_test true k = (λ y m. h.0 y (filter_has p xs y m).0, k)
    by_test false k = k

pub order_map : {X Y : Type 0} (S : X → X → Type 0) (R : Y → Y → Type 0) (f : X → Y) (xs : List X)
    → ((x z : X) → S x z → R (f x) (f z)) → InOrder S xs → InOrder R (map f xs)
order_map S R f [] keeps h = tt
order_map {X} {Y} S R f (x ∷ xs) keeps h = (
  λ y m. let r = map_has f xs y m in
      let P : Y → Type 0 = λ v. R (f x) v in
      subst P r.2 (keeps x r.0 (h.0 r.0 r.1)),
  order_map S R f xs keeps h.1,
)

pub order_range : (a n : ℕ) → InOrder (λ x y. x < y) (range_with_len a n)
order_range a zero = tt
order_range a (suc n) = (
  λ y m. let r : (a + 1 ≤ y) × (y < a + 1 + n) = range_has (a + 1) n y m in
      omega (arith, r.0),
  order_range (a + 1) n,
)

pub order_enumerate : {X : Type 0} (n : ℕ) (xs : List X) → InOrder (λ p q. p.0 < q.0) (enumerate_from n xs)
order_enumerate n [] = tt
order_enumerate {X} n (x ∷ xs) = (λ q m. let r = enumerate_has (n + 1) xs q.0 q.1 m in omega (arith, r.1), order_enumerate (n + 1) xs)

-- the order of pairs: by the first component, then by the second
abbrev pub PairPrecedes : {X : Type 0} → (X → X → Type 0) → X × X → X × X → Type 0
PairPrecedes S p q = S p.0 q.0 ⊎ ((p.0 ≡ q.0) × S p.1 q.1)

pub order_pairs_within : {X : Type 0} (S : X → X → Type 0) (xs : List X) → InOrder S xs → InOrder (PairPrecedes S) (pairs_within xs)
order_pairs_within S [] h = tt
order_pairs_within {X} S (x ∷ xs) h =
    order_append (PairPrecedes S) (map (λ y. (x, y)) xs) (pairs_within xs)
    (order_map S (PairPrecedes S) (λ y. (x, y)) xs (λ a b s. inr (refl, s)) h.1)
    (order_pairs_within S xs h.1)
    (λ p q hp hq. across p q hp hq)
  where
    first_in : (ys : List X) (q : X × X) → Has (pairs_within ys) q → Has ys q.0
    first_in [] q m = absurd m
    first_in (y ∷ ys) q m = by_part (first_in ys q) (has_append (map (λ z. let r : X × X = (y, z) in r) ys) (pairs_within ys) q m)
      where
        by_part : (Has (pairs_within ys) q → Has ys q.0)
            → Has (map (λ z. let r : X × X = (y, z) in r) ys) q ⊎ Has (pairs_within ys) q
            → (y ≡ q.0) ⊎ Has ys q.0
        by_part rest (inl k) = let r = map_has (λ z. let p : X × X = (y, z) in p) ys q k in inl (ap (λ (p : X × X). p.0) r.2)
        by_part rest (inr k) = inr (rest k)

    across : (p q : X × X) → Has (map (λ y. let r : X × X = (x, y) in r) xs) p → Has (pairs_within xs) q → PairPrecedes S p q
    across p q hp hq =
        let r = map_has (λ y. let s : X × X = (x, y) in s) xs p hp in
        let P : X → Type 0 = λ v. S v q.0 in
        inl (subst P (ap (λ (s : X × X). s.0) r.2) (h.0 q.0 (first_in xs q hq)))
