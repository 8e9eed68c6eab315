-- Lemmas about the items of the lists that `map`, `filter` and other list functions return.
use Rattle.std.proofs.Common.{◌≡◌, ℕ, zero, suc, ◌+◌, ◌<◌, ◌≤◌, Bool, true, false, List, [], ◌∷◌, ◌++◌, map, get_or, Option, Some, None, refl, sym, ◌∙◌, ap, subst, arith, cond, ◌⊎◌, inl, inr}
use Rattle.std.specs.Prelude.{slice_get, filter, filter_map, find, All, Contains}
use Rattle.std.specs.List.{list_any, list_all, cons_option, flat_map, enumerate_from, range_with_len}
use Rattle.std.proofs.lemmas.Bool.{and_from, and_parts, or_cases, or_left, or_right, cases_eq}
use Rattle.std.proofs.lemmas.Option.{slice_get_within, get_or_from_slice_get, slice_get-get_or}
use Rattle.board_defs.specs.Passes.{pairs_of, pairs_within}
use Rattle.board_defs.proofs.Places.{all_stands}

-- the list has the item
abbrev pub Has : {X : Type 0} → List X → X → Type 0
Has [] x = ⊥
Has (y ∷ ys) x = (y ≡ x) ⊎ Has ys x

pub has_at : {X : Type 0} (xs : List X) (k : ℕ) (x : X) → slice_get xs k ≡ Some x → Has xs x
has_at [] k x e = cc e
has_at (y ∷ ys) zero x e = inl (cc e)
has_at (y ∷ ys) (suc k) x e = inr (has_at ys k x e)

pub has_place : {X : Type 0} (xs : List X) (x : X) → Has xs x → (k : ℕ) × (slice_get xs k ≡ Some x)
has_place [] x h = absurd h
has_place (y ∷ ys) x (inl e) = (0, ap Some e)
has_place (y ∷ ys) x (inr h) = let r = has_place ys x h in (suc r.0, r.1)

pub has_contains : {X : Type 0} (xs : List X) (x : X) → Has xs x → Contains xs x
has_contains xs x h = let r = has_place xs x h in (r.0, slice_get_within xs r.0 x r.1, get_or_from_slice_get xs r.0 x x r.1)

pub contains_has : {X : Type 0} (xs : List X) (x : X) → Contains xs x → Has xs x
contains_has xs x (k, less, e) = has_at xs k x (slice_get-get_or xs k x less ∙ ap Some e)

pub has_left : {X : Type 0} (xs ys : List X) (x : X) → Has xs x → Has (xs ++ ys) x
has_left [] ys x h = absurd h
has_left (z ∷ xs) ys x (inl e) = inl e
has_left (z ∷ xs) ys x (inr h) = inr (has_left xs ys x h)

pub has_right : {X : Type 0} (xs ys : List X) (x : X) → Has ys x → Has (xs ++ ys) x
has_right [] ys x h = h
has_right (z ∷ xs) ys x h = inr (has_right xs ys x h)

pub has_append : {X : Type 0} (xs ys : List X) (x : X) → Has (xs ++ ys) x → Has xs x ⊎ Has ys x
has_append [] ys x h = inr h
has_append (z ∷ xs) ys x (inl e) = inl (inl e)
has_append {X} (z ∷ xs) ys x (inr h) = by_part (has_append xs ys x h)
  where
    by_part : Has xs x ⊎ Has ys x → Has (z ∷ xs) x ⊎ Has ys x
    by_part (inl k) = inl (inr k)
    by_part (inr k) = inr k

pub has_map : {X Y : Type 0} (f : X → Y) (xs : List X) (x : X) → Has xs x → Has (map f xs) (f x)
has_map f [] x h = absurd h
has_map f (z ∷ xs) x (inl e) = inl (ap f e)
has_map f (z ∷ xs) x (inr h) = inr (has_map f xs x h)

pub map_has : {X Y : Type 0} (f : X → Y) (xs : List X) (y : Y) → Has (map f xs) y → (x : X) × Has xs x × (f x ≡ y)
map_has f [] y h = absurd h
map_has f (z ∷ xs) y (inl e) = (z, inl refl, e)
map_has f (z ∷ xs) y (inr h) = let r = map_has f xs y h in (r.0, inr r.1, r.2)

pub has_flat_map : {X Y : Type 0} (f : X → List Y) (xs : List X) (x : X) (y : Y) → Has xs x → Has (f x) y → Has (flat_map f xs) y
has_flat_map f [] x y h k = absurd h
has_flat_map {X} {Y} f (z ∷ xs) x y (inl e) k =
    let P : X → Type 0 = λ v. Has (f v) y in has_left (f z) (flat_map f xs) y (subst P (sym e) k)
has_flat_map f (z ∷ xs) x y (inr h) k = has_right (f z) (flat_map f xs) y (has_flat_map f xs x y h k)

pub flat_map_has : {X Y : Type 0} (f : X → List Y) (xs : List X) (y : Y) → Has (flat_map f xs) y → (x : X) × Has xs x × Has (f x) y
flat_map_has f [] y h = absurd h
flat_map_has {X} {Y} f (z ∷ xs) y h = by_part (flat_map_has f xs y) (has_append (f z) (flat_map f xs) y h)
  where
    by_part : (Has (flat_map f xs) y → (x : X) × Has xs x × Has (f x) y)
        → Has (f z) y ⊎ Has (flat_map f xs) y → (x : X) × Has (z ∷ xs) x × Has (f x) y
    by_part rest (inl k) = (z, inl refl, k)
    by_part rest (inr k) = let r = rest k in (r.0, inr r.1, r.2)

pub has_filter : {X : Type 0} (p : X → Bool) (xs : List X) (x : X) → Has xs x → p x ≡ true → Has (filter p xs) x
has_filter p [] x h t = absurd h
has_filter {X} p (z ∷ xs) x (inl e) t =
    let P : Bool → Type 0 = λ b. Has (cond b (z ∷ filter p xs) (filter p xs)) x in
    subst P (sym (ap p e ∙ t)) (inl e)
has_filter {X} p (z ∷ xs) x (inr h) t = by_test (p z) (has_filter p xs x h t)
  where
    by_test : (b : Bool) → Has (filter p xs) x → Has (cond b (z ∷ filter p xs) (filter p xs)) x
    by_test true k = inr k
    by_test false k = k

pub filter_has : {X : Type 0} (p : X → Bool) (xs : List X) (x : X) → Has (filter p xs) x → Has xs x × (p x ≡ true)
filter_has p [] x h = absurd h
filter_has {X} p (z ∷ xs) x h = by_test (filter_has p xs x) (p z) refl h
  where
    by_test : (Has (filter p xs) x → Has xs x × (p x ≡ true)) → (b : Bool) → p z ≡ b
        → Has (cond b (z ∷ filter p xs) (filter p xs)) x → Has (z ∷ xs) x × (p x ≡ true)
    by_test rest true e (inl k) = (inl k, sym (ap p k) ∙ e)
    by_test rest true e (inr k) = let r = rest k in (inr r.0, r.1)
    by_test rest false e k = let r = rest k in (inr r.0, r.1)

pub has_filter_map : {X Y : Type 0} (h : X → Option Y) (xs : List X) (x : X) (y : Y) → Has xs x → h x ≡ Some y → Has (filter_map h xs) y
has_filter_map h [] x y k t = absurd k
has_filter_map {X} {Y} h (z ∷ xs) x y (inl e) t =
    let P : Option Y → Type 0 = λ w. Has (cons_option w (filter_map h xs)) y in
    subst P (sym (ap h e ∙ t)) (inl refl)
has_filter_map {X} {Y} h (z ∷ xs) x y (inr k) t = by_head (h z) (has_filter_map h xs x y k t)
  where
    by_head : (w : Option Y) → Has (filter_map h xs) y → Has (cons_option w (filter_map h xs)) y
    by_head None r = r
    by_head (Some v) r = inr r

pub filter_map_has : {X Y : Type 0} (h : X → Option Y) (xs : List X) (y : Y) → Has (filter_map h xs) y → (x : X) × Has xs x × (h x ≡ Some y)
filter_map_has h [] y k = absurd k
filter_map_has {X} {Y} h (z ∷ xs) y k = by_head (filter_map_has h xs y) (h z) refl k
  where
    by_head : (Has (filter_map h xs) y → (x : X) × Has xs x × (h x ≡ Some y)) → (w : Option Y)
        → h z ≡ w → Has (cons_option w (filter_map h xs)) y
        → (x : X) × Has (z ∷ xs) x × (h x ≡ Some y)
    by_head rest None e r = let s = rest r in (s.0, inr s.1, s.2)
    by_head rest (Some v) e (inl r) = (z, inl refl, e ∙ ap Some r)
    by_head rest (Some v) e (inr r) = let s = rest r in (s.0, inr s.1, s.2)

pub has_range : (a n k : ℕ) → a ≤ k → k < a + n → Has (range_with_len a n) k
has_range a zero k low high = absurd (omega arith)
has_range a (suc n) k low high = by_first (cases_eq a k) (λ up. has_range (a + 1) n k up (omega arith))
  where
    by_first : (a ≡ k) ⊎ (a ≡ k → ⊥) → (a + 1 ≤ k → Has (range_with_len (a + 1) n) k) → (a ≡ k) ⊎ Has (range_with_len (a + 1) n) k
    by_first (inl e) rest = inl e
    by_first (inr ne) rest = inr (rest (omega arith))

pub range_has : (a n k : ℕ) → Has (range_with_len a n) k → (a ≤ k) × (k < a + n)
range_has a zero k h = absurd h
range_has a (suc n) k (inl e) = (omega arith, omega arith)
range_has a (suc n) k (inr h) = let r : (a + 1 ≤ k) × (k < a + 1 + n) = range_has (a + 1) n k h in (omega (arith, r.0), omega (arith, r.1))

pub has_enumerate : {X : Type 0} (n : ℕ) (xs : List X) (k : ℕ) (x : X) → slice_get xs k ≡ Some x → Has (enumerate_from n xs) (n + k, x)
has_enumerate n [] k x e = cc e
has_enumerate {X} n (z ∷ xs) zero x e =
    let same : z ≡ x = cc e in
    let at : n ≡ n + 0 = omega arith in
    inl (ap (λ v. let q : ℕ × X = (n, v) in q) same ∙ ap (λ m. let q : ℕ × X = (m, x) in q) at)
has_enumerate {X} n (z ∷ xs) (suc k) x e =
    let at : n + 1 + k ≡ n + suc k = omega arith in
    let P : ℕ → Type 0 = λ m. Has (enumerate_from (n + 1) xs) (m, x) in
    inr (subst P at (has_enumerate (n + 1) xs k x e))

pub enumerate_has : {X : Type 0} (n : ℕ) (xs : List X) (m : ℕ) (x : X)
    → Has (enumerate_from n xs) (m, x) → (k : ℕ) × (m ≡ n + k) × (slice_get xs k ≡ Some x)
enumerate_has n [] m x h = absurd h
enumerate_has {X} n (z ∷ xs) m x (inl e) =
    let at : n ≡ m = ap (λ (q : ℕ × X). q.0) e in
    (0, omega (arith, at), ap Some (ap (λ (q : ℕ × X). q.1) e))
enumerate_has {X} n (z ∷ xs) m x (inr h) = let r = enumerate_has (n + 1) xs m x h in (suc r.0, omega (arith, r.1), r.2)

pub has_pairs_of : {X : Type 0} (xs ys : List X) (x y : X) → Has xs x → Has ys y → Has (pairs_of xs ys) (x, y)
has_pairs_of {X} xs ys x y h k =
    has_flat_map (λ a. map (λ b. let q : X × X = (a, b) in q) ys) xs x (x, y) h
    (has_map (λ b. let q : X × X = (x, b) in q) ys y k)

pub pairs_of_has : {X : Type 0} (xs ys : List X) (p : X × X) → Has (pairs_of xs ys) p → Has xs p.0 × Has ys p.1
pairs_of_has {X} xs ys p h =
    let r = flat_map_has (λ a. map (λ b. let q : X × X = (a, b) in q) ys) xs p h in
    let s = map_has (λ b. let q : X × X = (r.0, b) in q) ys p r.2 in
    let P : X → Type 0 = λ v. Has xs v in
    let Q : X → Type 0 = λ v. Has ys v in
    (subst P (ap (λ (q : X × X). q.0) s.2) r.1, subst Q (ap (λ (q : X × X). q.1) s.2) s.1)

pub has_pairs_within : {X : Type 0} (xs : List X) (m n : ℕ) (x y : X) → m < n
    → slice_get xs m ≡ Some x → slice_get xs n ≡ Some y → Has (pairs_within xs) (x, y)
has_pairs_within [] m n x y less em en = cc em
has_pairs_within (z ∷ xs) m zero x y less em en = absurd (omega arith)
has_pairs_within {X} (z ∷ xs) zero (suc n) x y less em en =
    let same : z ≡ x = cc em in
    let P : X → Type 0 = λ v. Has (map (λ b. let q : X × X = (v, b) in q) xs) (x, y) in
    has_left (map (λ b. let q : X × X = (z, b) in q) xs) (pairs_within xs) (x, y)
    (subst P (sym same) (has_map (λ b. let q : X × X = (x, b) in q) xs y (has_at xs n y en)))
has_pairs_within {X} (z ∷ xs) (suc m) (suc n) x y less em en =
    has_right (map (λ b. let q : X × X = (z, b) in q) xs) (pairs_within xs) (x, y)
    (has_pairs_within xs m n x y (omega arith) em en)

pub record Apart {X : Type 0} (xs : List X) (p : X × X) : Type 0 where
  pub low : ℕ
  pub high : ℕ
  pub below : low < high
  pub at_low : slice_get xs low ≡ Some p.0
  pub at_high : slice_get xs high ≡ Some p.1

pub pairs_within_has : {X : Type 0} (xs : List X) (p : X × X) → Has (pairs_within xs) p → Apart xs p
pairs_within_has [] p h = absurd h
pairs_within_has {X} (z ∷ xs) p h =
    by_part (pairs_within_has xs p)
    (has_append (map (λ b. let q : X × X = (z, b) in q) xs) (pairs_within xs) p h)
  where
    by_part : (Has (pairs_within xs) p → Apart xs p)
        → Has (map (λ b. let q : X × X = (z, b) in q) xs) p ⊎ Has (pairs_within xs) p
        → Apart (z ∷ xs) p
    by_part rest (inl k) =
        let r = map_has (λ b. let q : X × X = (z, b) in q) xs p k in
        let s = has_place xs r.0 r.1 in
        record {
          low = 0;
          high = suc s.0;
          below = omega arith;
          at_low = ap Some
              (ap (λ (q : X × X). q.0) r.2);
          at_high = s.1 ∙ ap Some (ap (λ (q : X × X). q.1) r.2);
        }
    by_part rest (inr k) =
        let r : Apart xs p = rest k in
        record {
          low = suc r.low;
          high = suc r.high;
          below = omega (arith, r.below);
          at_low = r.at_low;
          at_high = r.at_high;
        }

pub any_has : {X : Type 0} (p : X → Bool) (xs : List X) → list_any p xs ≡ true → (x : X) × Has xs x × (p x ≡ true)
any_has p [] h = cc h
any_has {X} p (z ∷ xs) h = by_part (any_has p xs) (or_cases (p z) (list_any p xs) h)
  where
    by_part : (list_any p xs ≡ true → (x : X) × Has xs x × (p x ≡ true))
        → (p z ≡ true) ⊎ (list_any p xs ≡ true) → (x : X) × Has (z ∷ xs) x × (p x ≡ true)
    by_part rest (inl e) = (z, inl refl, e)
    by_part rest (inr e) = let r = rest e in (r.0, inr r.1, r.2)

pub has_any : {X : Type 0} (p : X → Bool) (xs : List X) (x : X) → Has xs x → p x ≡ true → list_any p xs ≡ true
has_any p [] x h t = absurd h
has_any p (z ∷ xs) x (inl e) t = or_left (p z) (list_any p xs) (ap p e ∙ t)
has_any p (z ∷ xs) x (inr h) t = or_right (p z) (list_any p xs) (has_any p xs x h t)

pub all_has : {X : Type 0} (p : X → Bool) (xs : List X) (x : X) → list_all p xs ≡ true → Has xs x → p x ≡ true
all_has p [] x t h = absurd h
all_has p (z ∷ xs) x t (inl e) = sym (ap p e) ∙ (and_parts (p z) (list_all p xs) t).0
all_has p (z ∷ xs) x t (inr h) = all_has p xs x (and_parts (p z) (list_all p xs) t).1 h

pub has_all : {X : Type 0} (p : X → Bool) (xs : List X) → ((x : X) → Has xs x → p x ≡ true) → list_all p xs ≡ true
has_all p [] h = refl
has_all p (x ∷ xs) h = and_from (p x) (list_all p xs) (h x (inl refl)) (has_all p xs (λ y m. h y (inr m)))

pub has_from_all : {X : Type 0} (P : X → Type 0) (xs : List X) (x : X) → All P xs → Has xs x → P x
has_from_all P xs x all has = let at = has_place xs x has in all_stands P xs at.0 x at.1 all

pub all_from_has : {X : Type 0} (P : X → Type 0) (xs : List X) → ((x : X) → Has xs x → P x) → All P xs
all_from_has P xs each k d less = each (get_or xs k d) (has_at xs k (get_or xs k d) (slice_get-get_or xs k d less))

pub find_has : {X : Type 0} (p : X → Bool) (xs : List X) (x : X) → find p xs ≡ Some x → Has xs x × (p x ≡ true)
find_has p [] x h = cc h
find_has {X} p (z ∷ xs) x h = by_test (find_has p xs x) (p z) refl h
  where
    by_test : (find p xs ≡ Some x → Has xs x × (p x ≡ true)) → (b : Bool) → p z ≡ b
        → cond b (Some z) (find p xs) ≡ Some x → Has (z ∷ xs) x × (p x ≡ true)
    by_test rest true e k = let same : z ≡ x = cc k in (inl same, sym (ap p same) ∙ e)
    by_test rest false e k = let r = rest k in (inr r.0, r.1)

pub find_none : {X : Type 0} (p : X → Bool) (xs : List X) (x : X) → find p xs ≡ None → Has xs x → p x ≡ false
find_none p [] x h k = absurd k
find_none {X} p (z ∷ xs) x h k = by_test (find_none p xs x) (p z) refl h k
  where
    by_test : (find p xs ≡ None → Has xs x → p x ≡ false) → (b : Bool) → p z ≡ b
        → cond b (Some z) (find p xs) ≡ None → Has (z ∷ xs) x → p x ≡ false
    by_test rest true e n k = cc n
    by_test rest false e n (inl k) = sym (ap p k) ∙ e
    by_test rest false e n (inr k) = rest n k
