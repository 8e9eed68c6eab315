-- Searching a list by the images of its items under a function gives the same result as searching
-- the list of the images.
use Rattle.std.proofs.Common.{◌≡◌, Bool, true, false, cond, List, [], ◌∷◌, ◌++◌, map, Some, refl, sym, ap, ◌∙◌}
use Rattle.std.specs.Prelude.{find, filter, option_map}
use Rattle.std.specs.List.{list_any}
use Rattle.std.proofs.lemmas.List.{map-append}
use Rattle.lists.proofs.ListLemmas.{list_any-map}
use Rattle.first_places.specs.Places.{once_from, once, repeated_from, first_repeated, first_value}

pub map_seen : {A B C : Type 0} (f : A → C) (view : A → B) (g : B → C)
    → ((a : A) → f a ≡ g (view a)) → (xs : List A) → map f xs ≡ map g (map view xs)
map_seen f view g same [] = refl
map_seen {A} {B} {C} f view g same (x ∷ xs) =
    ap (λ (c : C). c ∷ map f xs) (same x)
    ∙ ap (λ (v : List C). g (view x) ∷ v) (map_seen f view g same xs)

pub find-map : {A B C : Type 0} (f : A → B) (p : B → Bool) (h : B → C) (xs : List A)
    → option_map h (find p (map f xs)) ≡ option_map (λ x. h (f x)) (find (λ x. p (f x)) xs)
find-map f p h [] = refl
find-map f p h (x ∷ xs) = by_test (p (f x)) (find-map f p h xs)
  where
    by_test : (b : Bool)
        → option_map h (find p (map f xs)) ≡ option_map (λ x. h (f x)) (find (λ x. p (f x)) xs)
        → option_map h (cond b (Some (f x)) (find p (map f xs)))
        ≡ option_map (λ x. h (f x)) (cond b (Some x) (find (λ x. p (f x)) xs))
    by_test true e = refl
    by_test false e = e

pub filter-map : {A B : Type 0} (f : A → B) (p : B → Bool) (xs : List A) → filter p (map f xs) ≡ map f (filter (λ x. p (f x)) xs)
filter-map f p [] = refl
filter-map {A} {B} f p (x ∷ xs) = by_test (p (f x)) (filter-map f p xs)
  where
    by_test : (b : Bool) → filter p (map f xs) ≡ map f (filter (λ x. p (f x)) xs)
        → cond b (f x ∷ filter p (map f xs)) (filter p (map f xs))
        ≡ map f (cond b (x ∷ filter (λ x. p (f x)) xs) (filter (λ x. p (f x)) xs))
    by_test true e = ap (λ (v : List B). f x ∷ v) e
    by_test false e = e

once_from-map : {A B : Type 0} (f : A → B) (eq : B → B → Bool) (seen xs : List A)
    → map f (once_from (λ a b. eq (f a) (f b)) seen xs) ≡ once_from eq (map f seen) (map f xs)
once_from-map f eq seen [] = refl
once_from-map {A} {B} f eq seen (x ∷ xs) =
    by_test (list_any (λ s. eq (f s) (f x)) seen)
    (once_from-map f eq (seen ++ x ∷ []) xs
    ∙ ap (λ (v : List B). once_from eq v (map f xs)) (map-append f seen (x ∷ [])))
    ∙ ap
    (λ b. cond b (once_from eq (map f seen ++ f x ∷ []) (map f xs))
    (f x ∷ once_from eq (map f seen ++ f x ∷ []) (map f xs)))
    (sym (list_any-map f (λ s. eq s (f x)) seen))
  where
    by_test : (b : Bool)
        → map f (once_from (λ a b. eq (f a) (f b)) (seen ++ x ∷ []) xs)
        ≡ once_from eq (map f seen ++ f x ∷ []) (map f xs) →
        map f
        (cond b (once_from (λ a b. eq (f a) (f b)) (seen ++ x ∷ []) xs)
        (x ∷ once_from (λ a b. eq (f a) (f b)) (seen ++ x ∷ []) xs))
        ≡ cond b (once_from eq (map f seen ++ f x ∷ []) (map f xs))
        (f x ∷ once_from eq (map f seen ++ f x ∷ []) (map f xs))
    by_test true e = e
    by_test false e = ap (λ (v : List B). f x ∷ v) e

pub once-map : {A B : Type 0} (f : A → B) (eq : B → B → Bool) (xs : List A) → map f (once (λ a b. eq (f a) (f b)) xs) ≡ once eq (map f xs)
once-map f eq xs = once_from-map f eq [] xs

repeated_from-map : {A B C : Type 0} (f : A → B) (eq : B → B → Bool) (h : B → C) (seen xs : List A)
    → option_map h (repeated_from eq (map f seen) (map f xs))
    ≡ option_map (λ x. h (f x)) (repeated_from (λ a b. eq (f a) (f b)) seen xs)
repeated_from-map f eq h seen [] = refl
repeated_from-map {A} {B} {C} f eq h seen (x ∷ xs) =
    ap
    (λ b. option_map h
    (cond b (Some (f x)) (repeated_from eq (map f seen ++ f x ∷ []) (map f xs))))
    (list_any-map f (λ s. eq s (f x)) seen)
    ∙ by_test (list_any (λ s. eq (f s) (f x)) seen)
    (ap (λ (v : List B). option_map h (repeated_from eq v (map f xs)))
    (sym (map-append f seen (x ∷ []))) ∙ repeated_from-map f eq h (seen ++ x ∷ []) xs)
  where
    by_test : (b : Bool)
        → option_map h (repeated_from eq (map f seen ++ f x ∷ []) (map f xs))
        ≡ option_map (λ x. h (f x)) (repeated_from (λ a b. eq (f a) (f b)) (seen ++ x ∷ []) xs) →
        option_map h (cond b (Some (f x)) (repeated_from eq (map f seen ++ f x ∷ []) (map f xs)))
        ≡ option_map (λ x. h (f x))
        (cond b (Some x) (repeated_from (λ a b. eq (f a) (f b)) (seen ++ x ∷ []) xs))
    by_test true e = refl
    by_test false e = e

pub repeated-map : {A B C : Type 0} (f : A → B) (eq : B → B → Bool) (h : B → C) (xs : List A)
    → option_map h (first_repeated eq (map f xs))
    ≡ option_map (λ x. h (f x)) (first_repeated (λ a b. eq (f a) (f b)) xs)
repeated-map f eq h xs = repeated_from-map f eq h [] xs

-- a look-up by a borrowed key gives the same value as a look-up by the key itself
pub value_lent : {A K V : Type 0} (view : A → K) (eq : K → K → Bool) (items : List (A × V)) (q : A)
    → first_value (λ a b. eq (view a) (view b)) items q
    ≡ first_value eq (map (λ (i : A × V). (view i.0, i.1)) items) (view q)
value_lent {A} {K} {V} view eq items q =
    sym
    (find-map (λ (i : A × V). let p : K × V = (view i.0, i.1) in p) (λ (p : K × V). eq p.0 (view q))
    (λ (p : K × V). p.1) items)
