-- Lemmas about tests on the items of a list and on the numbers below a bound. Some of them find an item or a number that passes.
use Rattle.std.proofs.Common.{◌≡◌, ◌≢◌, ℕ, zero, suc, ◌<◌, ◌==◌, Bool, true, false, not, List, [], ◌∷◌, Some, refl, sym, ◌∙◌, ap, subst, arith, ◌⊎◌, inl, inr, cond}
use Rattle.std.specs.Prelude.{slice_get, All}
use Rattle.std.specs.List.{list_any, list_all}
use Rattle.std.proofs.lemmas.Option.{slice_get_within, get_or_from_slice_get}
use Rattle.std.proofs.lemmas.Bool.{both_ways, not-true, not_from_false, false_from_ne_true, and_parts, and_from, or_left, or_right, or_cases, eqb-true}
use Rattle.board_defs.specs.Decided.{any_below, at_most_one, any_other}

pub all_stands : {X : Type 0} (P : X → Type 0) (xs : List X) (k : ℕ) (x : X) → slice_get xs k ≡ Some x → All P xs → P x
all_stands P xs k x e all = subst P (get_or_from_slice_get xs k x x e) (all k x (slice_get_within xs k x e))

-- an item of the list that passes, with its place
pub record Found {X : Type 0} (test : X → Bool) (xs : List X) : Type 0 where
  pub place : ℕ
  pub item : X
  pub stands : slice_get xs place ≡ Some item
  pub passes : test item ≡ true

pub any_place : {X : Type 0} (test : X → Bool) (xs : List X) → list_any test xs ≡ true → Found test xs
any_place test [] h = cc h
any_place {X} test (x ∷ xs) h = by_cases (any_place test xs) (or_cases (test x) (list_any test xs) h)
  where
    by_cases : (list_any test xs ≡ true → Found test xs) → (test x ≡ true) ⊎ (list_any test xs ≡ true) → Found test (x ∷ xs)
    by_cases rest (inl e) = record { place = 0; item = x; stands = refl; passes = e }
    by_cases rest (inr e) =
        let r : Found test xs = rest e in
        record { place = suc r.place; item = r.item; stands = r.stands; passes = r.passes }

pub any_at : {X : Type 0} (test : X → Bool) (xs : List X) (i : ℕ) (x : X) → slice_get xs i ≡ Some x
    → test x ≡ true → list_any test xs ≡ true
any_at test [] i x e p = cc e
any_at {X} test (y ∷ xs) zero x e p = let same : y ≡ x = cc in or_left (test y) (list_any test xs) (ap test same ∙ p)
any_at test (y ∷ xs) (suc i) x e p = or_right (test y) (list_any test xs) (any_at test xs i x e p)

pub all_at : {X : Type 0} (test : X → Bool) (xs : List X) → list_all test xs ≡ true
    → (i : ℕ) (x : X) → slice_get xs i ≡ Some x → test x ≡ true
all_at test [] h i x e = cc e
all_at {X} test (y ∷ xs) h zero x e = let same : x ≡ y = cc in ap test same ∙ (and_parts (test y) (list_all test xs) h).0
all_at test (y ∷ xs) h (suc i) x e = all_at test xs ((and_parts (test y) (list_all test xs) h).1) i x e

pub all_from : {X : Type 0} (test : X → Bool) (xs : List X)
    → ((i : ℕ) (x : X) → slice_get xs i ≡ Some x → test x ≡ true) → list_all test xs ≡ true
all_from test [] h = refl
all_from test (y ∷ xs) h = and_from (test y) (list_all test xs) (h 0 y refl) (all_from test xs (λ i x e. h (suc i) x e))

suc_differs : (i j : ℕ) → i ≢ j → suc i ≢ suc j
suc_differs i j h e = h (omega arith)

pub one_from : {X : Type 0} (test : X → Bool) (xs : List X)
    → ((i j : ℕ) (x y : X) → slice_get xs i ≡ Some x → slice_get xs j ≡ Some y → i ≢ j
    → test x ≡ true → test y ≡ true → ⊥) → at_most_one test xs ≡ true
one_from test [] h = refl
one_from {X} test (z ∷ xs) h =
    by_head
    (one_from test xs (λ i j x y ei ej ne p q. h (suc i) (suc j) x y ei ej (suc_differs i j ne) p q))
    (test z) refl
  where
    by_head : at_most_one test xs ≡ true → (b : Bool) → test z ≡ b → cond b (not (list_any test xs)) (at_most_one test xs) ≡ true
    by_head rest true e =
        not_from_false (list_any test xs)
        (false_from_ne_true (list_any test xs)
        (λ a. let r : Found test xs = any_place test xs a in
        h 0 (suc r.place) z r.item refl r.stands (λ (k : 0 ≡ suc r.place). omega arith) e
        r.passes))
    by_head rest false e = rest

pub one_at : {X : Type 0} (test : X → Bool) (xs : List X) → at_most_one test xs ≡ true
    → (i j : ℕ) (x y : X) → slice_get xs i ≡ Some x → slice_get xs j ≡ Some y → i ≢ j
    → test x ≡ true → test y ≡ true → ⊥
one_at test [] h i j x y ei ej ne p q = cc ei
one_at {X} test (z ∷ xs) h zero zero x y ei ej ne p q = ne refl
one_at {X} test (z ∷ xs) h zero (suc j) x y ei ej ne p q =
    let zx : z ≡ x = cc in
    let pz : test z ≡ true = ap test zx ∙ p in
    let k : not (list_any test xs) ≡ true = sym (ap (λ b. cond b (not (list_any test xs)) (at_most_one test xs)) pz) ∙ h in
    both_ways (list_any test xs) (not-true (list_any test xs) k) (any_at test xs j y ej q)
one_at {X} test (z ∷ xs) h (suc i) zero x y ei ej ne p q =
    let zy : z ≡ y = cc in
    let pz : test z ≡ true = ap test zy ∙ q in
    let k : not (list_any test xs) ≡ true = sym (ap (λ b. cond b (not (list_any test xs)) (at_most_one test xs)) pz) ∙ h in
    both_ways (list_any test xs) (not-true (list_any test xs) k) (any_at test xs i x ei p)
one_at {X} test (z ∷ xs) h (suc i) (suc j) x y ei ej ne p q =
    by_head (λ k. one_at test xs k i j x y ei ej (λ s. ne (ap suc s)) p q) (test z) refl
  where
    by_head : (at_most_one test xs ≡ true → ⊥) → (b : Bool) → test z ≡ b → ⊥
    by_head rest true e =
        let k : not (list_any test xs) ≡ true = sym (ap (λ b. cond b (not (list_any test xs)) (at_most_one test xs)) e) ∙ h in
        both_ways (list_any test xs) (not-true (list_any test xs) k) (any_at test xs i x ei p)
    by_head rest false e = rest (sym (ap (λ b. cond b (not (list_any test xs)) (at_most_one test xs)) e) ∙ h)

pub record FoundBelow (n : ℕ) (test : ℕ → Bool) : Type 0 where
  pub number : ℕ
  pub below : number < n
  pub passes : test number ≡ true

pub below_place : (n : ℕ) (test : ℕ → Bool) → any_below n test ≡ true → FoundBelow n test
below_place zero test h = cc h
below_place (suc n) test h = by_cases (below_place n test) (or_cases (test n) (any_below n test) h)
  where
    by_cases : (any_below n test ≡ true → FoundBelow n test) → (test n ≡ true) ⊎ (any_below n test ≡ true) → FoundBelow (suc n) test
    by_cases rest (inl e) = record { number = n; below = omega arith; passes = e }
    by_cases rest (inr e) = let r : FoundBelow n test = rest e in record { number = r.number; below = omega arith; passes = r.passes }

pub below_at : (n : ℕ) (test : ℕ → Bool) (k : ℕ) → k < n → test k ≡ true → any_below n test ≡ true
below_at zero test k h p = absurd (omega arith)
below_at (suc n) test k h p = by_cases (λ less. below_at n test k less p) (n == k) refl
  where
    by_cases : (k < n → any_below n test ≡ true) → (b : Bool) → (n == k) ≡ b → any_below (suc n) test ≡ true
    by_cases rest true e = let same : n ≡ k = eqb-true n k e in or_left (test n) (any_below n test) (ap test same ∙ p)
    by_cases rest false e = let less : k < n = grind arith in or_right (test n) (any_below n test) (rest less)

-- an item that passes, at a place other than `i`
pub record FoundElsewhere {X : Type 0} (test : X → Bool) (i : ℕ) (xs : List X) : Type 0 where
  pub place : ℕ
  pub item : X
  pub stands : slice_get xs place ≡ Some item
  pub elsewhere : place ≢ i
  pub passes : test item ≡ true

pub other_place : {X : Type 0} (test : X → Bool) (i : ℕ) (xs : List X) → any_other test i xs ≡ true → FoundElsewhere test i xs
other_place test i [] h = cc h
other_place {X} test zero (x ∷ xs) h =
    let r : Found test xs = any_place test xs h in
    record {
      place = suc r.place;
      item = r.item;
      stands = r.stands;
      elsewhere = λ (k : suc r.place ≡ 0).
          omega arith;
      passes = r.passes;
    }
other_place {X} test (suc i) (x ∷ xs) h = by_cases (other_place test i xs) (or_cases (test x) (any_other test i xs) h)
  where
    by_cases : (any_other test i xs ≡ true → FoundElsewhere test i xs)
        → (test x ≡ true) ⊎ (any_other test i xs ≡ true) → FoundElsewhere test (suc i) (x ∷ xs)
    by_cases rest (inl e) = record { place = 0; item = x; stands = refl; elsewhere = λ (k : 0 ≡ suc i). omega arith; passes = e }
    by_cases rest (inr e) =
        let r : FoundElsewhere test i xs = rest e in
        record {
          place = suc r.place;
          item = r.item;
          stands = r.stands;
          elsewhere = suc_differs r.place i
              r.elsewhere;
          passes = r.passes;
        }

pub other_at : {X : Type 0} (test : X → Bool) (i : ℕ) (xs : List X) (j : ℕ) (x : X)
    → slice_get xs j ≡ Some x → j ≢ i → test x ≡ true → any_other test i xs ≡ true
other_at test i [] j x e ne p = cc e
other_at test zero (y ∷ xs) zero x e ne p = absurd (ne refl)
other_at test zero (y ∷ xs) (suc j) x e ne p = any_at test xs j x e p
other_at {X} test (suc i) (y ∷ xs) zero x e ne p = let same : y ≡ x = cc in or_left (test y) (any_other test i xs) (ap test same ∙ p)
other_at test (suc i) (y ∷ xs) (suc j) x e ne p = or_right (test y) (any_other test i xs) (other_at test i xs j x e (λ s. ne (ap suc s)) p)
