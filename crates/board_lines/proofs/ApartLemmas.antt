-- Lemmas about lists in which a relation holds between each item and every later item. The items
-- that `once` keeps are such a list, since no two of them are equal.
use Rattle.std.proofs.Common.{◌≡◌, ℕ, zero, suc, ◌<◌, Bool, true, false, cond, ◌||◌, List, [], ◌∷◌, ◌++◌, map, get_or, Some, None, refl, sym, ap, subst, ◌∙◌, arith, ◌⊎◌, inl, inr}
use Rattle.std.specs.Prelude.{slice_get, filter, AllPairs}
use Rattle.std.specs.List.{list_any, AllByRecursion}
use Rattle.std.proofs.lemmas.Bool.{cases_order}
use Rattle.std.proofs.lemmas.Option.{slice_get_within, get_or_from_slice_get}
use Rattle.std.proofs.lemmas.List.Folds.{list_any-append}
use Rattle.std.proofs.lemmas.List.Elements.{All-from_recursion}
use Rattle.std.proofs.lemmas.List.Kept.{AllPairs-cons}
use Rattle.first_places.specs.Places.{once_from, once, first_repeated}
use Rattle.first_places.proofs.OnceLemmas.{unrepeated}

-- R holds between each item and every later item
abbrev pub Apart : {X : Type 0} → (X → X → Type 0) → List X → Type 0
Apart R [] = Unit {0}
Apart R (x ∷ xs) = AllByRecursion (R x) xs × Apart R xs

pub apart_pairs : {X : Type 0} (R : X → X → Type 0) (xs : List X) → Apart R xs → AllPairs R xs
apart_pairs R [] h = λ i j d less within. absurd (omega arith)
apart_pairs R (x ∷ xs) h = AllPairs-cons R x xs (All-from_recursion (R x) xs h.0) (apart_pairs R xs h.1)

pub pairs_at : {X : Type 0} (R : X → X → Type 0) (xs : List X) → AllPairs R xs → (i j : ℕ) (x y : X)
    → i < j → slice_get xs i ≡ Some x → slice_get xs j ≡ Some y → R x y
pairs_at {X} R xs h i j x y less ei ej =
    let P : X → Type 0 = λ v. R v (get_or xs j x) in
    let Q : X → Type 0 = λ v. R x v in
    subst Q (get_or_from_slice_get xs j y x ej) (subst P (get_or_from_slice_get xs i x x ei) (h i j x less (slice_get_within xs j y ej)))

-- if R holds between each item and every later item, two items between which R holds in neither
-- order are at the same index
pub one_place : {X : Type 0} (R : X → X → Type 0) (xs : List X) → AllPairs R xs
    → (i j : ℕ) (x y : X) → slice_get xs i ≡ Some x → slice_get xs j ≡ Some y → (R x y → ⊥)
    → (R y x → ⊥) → i ≡ j
one_place R xs h i j x y ei ej wrong back = by_order (cases_order i j)
  where
    by_order : (i ≡ j) ⊎ ((i < j) ⊎ (j < i)) → i ≡ j
    by_order (inl e) = e
    by_order (inr (inl less)) = absurd (wrong (pairs_at R xs h i j x y less ei ej))
    by_order (inr (inr less)) = absurd (back (pairs_at R xs h j i y x less ej ei))

pub each_weaker : {X : Type 0} (P Q : X → Type 0) → ((x : X) → P x → Q x) → (xs : List X) → AllByRecursion P xs → AllByRecursion Q xs
each_weaker P Q f [] h = h
each_weaker P Q f (x ∷ xs) h = (f x h.0, each_weaker P Q f xs h.1)

pub each_map : {X Y : Type 0} (f : X → Y) (P : Y → Type 0) (xs : List X) → AllByRecursion P (map f xs) → AllByRecursion (λ x. P (f x)) xs
each_map f P [] h = h
each_map f P (x ∷ xs) h = (h.0, each_map f P xs h.1)

pub apart_weaker : {X : Type 0} (R S : X → X → Type 0) → ((x y : X) → R x y → S x y) → (xs : List X) → Apart R xs → Apart S xs
apart_weaker R S f [] h = h
apart_weaker R S f (x ∷ xs) h = (each_weaker (R x) (S x) (f x) xs h.0, apart_weaker R S f xs h.1)

pub apart_map : {X Y : Type 0} (f : X → Y) (R : Y → Y → Type 0) (xs : List X) → Apart R (map f xs) → Apart (λ x y. R (f x) (f y)) xs
apart_map f R [] h = h
apart_map f R (x ∷ xs) h = (each_map f (R (f x)) xs h.0, apart_map f R xs h.1)

each_passing : {X : Type 0} (p : X → Bool) (P : X → Type 0) (xs : List X)
    → AllByRecursion P (filter p xs) → AllByRecursion (λ x. p x ≡ true → P x) xs
each_passing p P [] h = h
each_passing {X} p P (x ∷ xs) h = by_test (each_passing p P xs) (p x) refl h
  where
    by_test : (AllByRecursion P (filter p xs) → AllByRecursion (λ y. p y ≡ true → P y) xs)
        → (b : Bool) → p x ≡ b → AllByRecursion P (cond b (x ∷ filter p xs) (filter p xs))
        → (p x ≡ true → P x) × AllByRecursion (λ y. p y ≡ true → P y) xs
    by_test rest true e k = ((λ _. k.0), rest k.1)
    by_test rest false e k = ((λ yes_. wrong (sym e ∙ yes_)), rest k)
      where
        wrong : false ≡ true → P x
        wrong w = cc w

pub apart_passing : {X : Type 0} (p : X → Bool) (R : X → X → Type 0) (xs : List X)
    → Apart R (filter p xs) → Apart (λ x y. p x ≡ true → p y ≡ true → R x y) xs
apart_passing p R [] h = h
apart_passing {X} p R (x ∷ xs) h = by_test (apart_passing p R xs) (p x) refl h
  where
    none_of : (ys : List X) → p x ≡ false → AllByRecursion (λ y. p x ≡ true → p y ≡ true → R x y) ys
    none_of [] e = tt
    none_of (y ∷ ys) e = ((λ t u. cc (sym e ∙ t)), none_of ys e)

    by_test : (Apart R (filter p xs) → Apart (λ a b. p a ≡ true → p b ≡ true → R a b) xs)
        → (b : Bool) → p x ≡ b → Apart R (cond b (x ∷ filter p xs) (filter p xs))
        → AllByRecursion (λ y. p x ≡ true → p y ≡ true → R x y) xs
        × Apart (λ a b. p a ≡ true → p b ≡ true → R a b) xs
    by_test rest true e k = (
      each_weaker (λ y. p y ≡ true → R x y) (λ y. p x ≡ true → p y ≡ true → R x y)
          (λ y f t u. f u) xs (each_passing p (R x) xs k.0),
      rest k.1,
    )
    by_test rest false e k = (none_of xs e, rest k)

first_false : (a b : Bool) → (a || b) ≡ false → a ≡ false
first_false true b e = e
first_false false b e = refl

last_false : (a b : Bool) → (a || (b || false)) ≡ false → b ≡ false
last_false true b e = cc e
last_false false true e = e
last_false false false e = refl

any_first : {X : Type 0} (p : X → Bool) (xs : List X) (y : X) → list_any p (xs ++ y ∷ []) ≡ false → list_any p xs ≡ false
any_first p xs y e = first_false (list_any p xs) (list_any p (y ∷ [])) (sym (list_any-append p xs (y ∷ [])) ∙ e)

any_last : {X : Type 0} (p : X → Bool) (xs : List X) (y : X) → list_any p (xs ++ y ∷ []) ≡ false → p y ≡ false
any_last p xs y e = last_false (list_any p xs) (p y) (sym (list_any-append p xs (y ∷ [])) ∙ e)

-- no item that `once_from` keeps equals an item of `seen`
once_fresh : {X : Type 0} (eq : X → X → Bool) (seen items : List X)
    → AllByRecursion (λ i. list_any (λ s. eq s i) seen ≡ false) (once_from eq seen items)
once_fresh eq seen [] = tt
once_fresh {X} eq seen (x ∷ items) =
    by_test
    (each_weaker (λ i. list_any (λ s. eq s i) (seen ++ x ∷ []) ≡ false)
    (λ i. list_any (λ s. eq s i) seen ≡ false) (λ i. any_first (λ s. eq s i) seen x)
    (once_from eq (seen ++ x ∷ []) items) (once_fresh eq (seen ++ x ∷ []) items))
    (list_any (λ s. eq s x) seen) refl
  where
    by_test : AllByRecursion (λ i. list_any (λ s. eq s i) seen ≡ false)
        (once_from eq (seen ++ x ∷ []) items) → (b : Bool) → list_any (λ s. eq s x) seen ≡ b →
        AllByRecursion (λ i. list_any (λ s. eq s i) seen ≡ false)
        (cond b (once_from eq (seen ++ x ∷ []) items) (x ∷ once_from eq (seen ++ x ∷ []) items))
    by_test rest true e = rest
    by_test rest false e = (e, rest)

once_from_apart : {X : Type 0} (eq : X → X → Bool) (seen items : List X) → Apart (λ a b. eq a b ≡ false) (once_from eq seen items)
once_from_apart eq seen [] = tt
once_from_apart {X} eq seen (x ∷ items) =
    by_test (once_from_apart eq (seen ++ x ∷ []) items)
    (each_weaker (λ i. list_any (λ s. eq s i) (seen ++ x ∷ []) ≡ false) (λ i. eq x i ≡ false)
    (λ i. any_last (λ s. eq s i) seen x) (once_from eq (seen ++ x ∷ []) items)
    (once_fresh eq (seen ++ x ∷ []) items)) (list_any (λ s. eq s x) seen)
  where
    by_test : Apart (λ a b. eq a b ≡ false) (once_from eq (seen ++ x ∷ []) items)
        → AllByRecursion (λ i. eq x i ≡ false) (once_from eq (seen ++ x ∷ []) items) → (b : Bool) →
        Apart (λ a b. eq a b ≡ false) (cond b (once_from eq (seen ++ x ∷ []) items) (x ∷ once_from eq (seen ++ x ∷ []) items))
    by_test rest first true = rest
    by_test rest first false = (first, rest)

pub once_apart : {X : Type 0} (eq : X → X → Bool) (items : List X) → Apart (λ a b. eq a b ≡ false) (once eq items)
once_apart eq items = once_from_apart eq [] items

pub unrepeated_apart : {X : Type 0} (eq : X → X → Bool) (items : List X)
    → first_repeated eq items ≡ None → Apart (λ a b. eq a b ≡ false) items
unrepeated_apart {X} eq items e =
    let P : List X → Type 0 = λ v. Apart (λ a b. eq a b ≡ false) v in
    subst P (unrepeated eq eq (λ a b h. h) items e) (once_apart eq items)

-- item `x` is in the list and passes the test `p`
pub record Passing {X : Type 0} (p : X → Bool) (xs : List X) (x : X) : Type 0 where
  pub place : ℕ
  pub stands : slice_get xs place ≡ Some x
  pub passes : p x ≡ true

pub passing : {X : Type 0} (p : X → Bool) (xs : List X) (i : ℕ) (x : X) → slice_get (filter p xs) i ≡ Some x → Passing p xs x
passing p [] i x e = cc e
passing {X} p (y ∷ ys) i x e = by_test (passing p ys) (p y) refl i e
  where
    later : Passing p ys x → Passing p (y ∷ ys) x
    later r = record { place = suc r.place; stands = r.stands; passes = r.passes }

    by_test : ((k : ℕ) (z : X) → slice_get (filter p ys) k ≡ Some z → Passing p ys z) → (b : Bool)
        → p y ≡ b → (k : ℕ) → slice_get (cond b (y ∷ filter p ys) (filter p ys)) k ≡ Some x
        → Passing p (y ∷ ys) x
    by_test rest true t zero k = let same : y ≡ x = cc k in record { place = 0; stands = k; passes = sym (ap p same) ∙ t }
    by_test rest true t (suc n) k = later (rest n x k)
    by_test rest false t n k = later (rest n x k)

pub mapped : {X Y : Type 0} (f : X → Y) (xs : List X) (i : ℕ) (y : Y)
    → slice_get (map f xs) i ≡ Some y → (x : X) × (slice_get xs i ≡ Some x) × (f x ≡ y)
mapped f [] i y e = cc e
mapped f (x ∷ xs) zero y e = let same : f x ≡ y = cc e in (x, refl, same)
mapped f (x ∷ xs) (suc i) y e = mapped f xs i y e
