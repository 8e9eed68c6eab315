-- Boolean tests for properties of lists, and what follows if a list passes them. The checks of sample devices and boards are built from
-- these tests.
use Rattle.std.proofs.Common.{◌≡◌, ◌≢◌, ℕ, zero, suc, ◌<◌, ◌==◌, Bool, true, false, not, ◌&&◌, ◌||◌, List, [], ◌∷◌, Some, refl, sym, ◌∙◌, ap, subst, arith, ◌⊎◌, inl, inr}
use Rattle.std.specs.Prelude.{slice_get, All, AllPairs}
use Rattle.std.specs.List.{list_all, range_with_len}
use Rattle.std.proofs.lemmas.Bool.{and_parts, and_from, eqb-true, eq-eqb, cases_order}
use Rattle.std.proofs.lemmas.List.Elements.{All-cons, All-nil}
use Rattle.board_defs.proofs.Members.{has_at, has_range, all_has}

pub all_by : {X : Type 0} (P : X → Type 0) (test : X → Bool) → ((x : X) → test x ≡ true → P x)
    → (xs : List X) → list_all test xs ≡ true → All P xs
all_by P test gives [] h = All-nil P
all_by P test gives (x ∷ xs) h =
    let parts = and_parts (test x) (list_all test xs) h in
    All-cons P x xs (gives x parts.0) (all_by P test gives xs parts.1)

pub item_by : {X : Type 0} (test : X → Bool) (xs : List X) (i : ℕ) (x : X) → list_all test xs ≡ true
    → slice_get xs i ≡ Some x → test x ≡ true
item_by test xs i x h e = all_has test xs x h (has_at xs i x e)

pub below_by : (test : ℕ → Bool) (n k : ℕ) → list_all test (range_with_len 0 n) ≡ true → k < n → test k ≡ true
below_by test n k h less = all_has test (range_with_len 0 n) k h (has_range 0 n k (omega arith) (omega arith))

-- `test x y` is true for each item `x` and each item `y` after it
abbrev pub later_pass : {X : Type 0} → (X → X → Bool) → List X → Bool
later_pass test [] = true
later_pass test (x ∷ xs) = list_all (test x) xs && later_pass test xs

pub later_by : {X : Type 0} (test : X → X → Bool) (xs : List X) → later_pass test xs ≡ true
    → (i j : ℕ) (x y : X) → i < j → slice_get xs i ≡ Some x → slice_get xs j ≡ Some y
    → test x y ≡ true
later_by test [] h i j x y less ei ej = cc ei
later_by test (z ∷ xs) h i zero x y less ei ej = absurd (omega arith)
later_by {X} test (z ∷ xs) h zero (suc j) x y less ei ej =
    let same : z ≡ x = cc ei in
    let P : X → Type 0 = λ v. test v y ≡ true in
    subst P same (item_by (test z) xs j y (and_parts (list_all (test z) xs) (later_pass test xs) h).0 ej)
later_by test (z ∷ xs) h (suc i) (suc j) x y less ei ej =
    later_by test xs (and_parts (list_all (test z) xs) (later_pass test xs) h).1 i j x y
    (omega arith) ei ej

pub pairs_by : {X : Type 0} (R : X → X → Type 0) (test : X → X → Bool)
    → ((x y : X) → test x y ≡ true → R x y) → (xs : List X) → later_pass test xs ≡ true
    → AllPairs R xs
pairs_by R test gives [] h i j d less within = absurd (omega arith)
pairs_by R test gives (x ∷ xs) h i zero d less within = absurd (omega arith)
pairs_by R test gives (x ∷ xs) h zero (suc j) d less within =
    all_by (R x) (test x) (gives x) xs (and_parts (list_all (test x) xs) (later_pass test xs) h).0 j
    d (omega arith)
pairs_by R test gives (x ∷ xs) h (suc i) (suc j) d less within =
    pairs_by R test gives xs (and_parts (list_all (test x) xs) (later_pass test xs) h).1 i j d
    (omega arith) (omega arith)

-- Suppose that `clash` is false for each item and each later item. Two items for which `clash` is true in both orders are then at the same
-- place.
pub one_by : {X : Type 0} (clash : X → X → Bool) (xs : List X)
    → later_pass (λ x y. not (clash x y)) xs ≡ true → (i j : ℕ) (x y : X) → slice_get xs i ≡ Some x
    → slice_get xs j ≡ Some y → clash x y ≡ true → clash y x ≡ true → i ≡ j
one_by {X} clash xs h i j x y ei ej c d = by_order (cases_order i j)
  where
    wrong : (b : Bool) → b ≡ true → not b ≡ true → ⊥
    wrong true e f = cc f
    wrong false e f = cc e

    by_order : (i ≡ j) ⊎ ((i < j) ⊎ (j < i)) → i ≡ j
    by_order (inl e) = e
    by_order (inr (inl less)) = absurd (wrong (clash x y) c (later_by (λ a b. not (clash a b)) xs h i j x y less ei ej))
    by_order (inr (inr less)) = absurd (wrong (clash y x) d (later_by (λ a b. not (clash a b)) xs h j i y x less ej ei))

-- the test passes for each item of the first list and each item of the second
abbrev pub two_pass : {X Y : Type 0} → (X → Y → Bool) → List X → List Y → Bool
two_pass test xs ys = list_all (λ x. list_all (test x) ys) xs

pub two_by : {X Y : Type 0} (test : X → Y → Bool) (xs : List X) (ys : List Y) (i j : ℕ) (x : X)
    (y : Y) → two_pass test xs ys ≡ true → slice_get xs i ≡ Some x → slice_get ys j ≡ Some y
    → test x y ≡ true
two_by test xs ys i j x y h ei ej = item_by (test x) ys j y (item_by (λ a. list_all (test a) ys) xs i x h ei) ej

-- the two texts are equal
abbrev pub same_text : List ℕ → List ℕ → Bool
same_text [] [] = true
same_text [] (y ∷ ys) = false
same_text (x ∷ xs) [] = false
same_text (x ∷ xs) (y ∷ ys) = (x == y) && same_text xs ys

same_text_refl : (xs : List ℕ) → same_text xs xs ≡ true
same_text_refl [] = refl
same_text_refl (x ∷ xs) = and_from (x == x) (same_text xs xs) (eq-eqb x x refl) (same_text_refl xs)

pub same_text_of : (xs ys : List ℕ) → xs ≡ ys → same_text xs ys ≡ true
same_text_of xs ys e = ap (same_text xs) (sym e) ∙ same_text_refl xs

pub text_of : (xs ys : List ℕ) → same_text xs ys ≡ true → xs ≡ ys
text_of [] [] h = refl
text_of [] (y ∷ ys) h = cc h
text_of (x ∷ xs) [] h = cc h
text_of (x ∷ xs) (y ∷ ys) h =
    let parts = and_parts (x == y) (same_text xs ys) h in
    ap (λ n. n ∷ xs) (eqb-true x y parts.0) ∙ ap (λ (v : List ℕ). y ∷ v) (text_of xs ys parts.1)

pub texts_differ : (xs ys : List ℕ) → not (same_text xs ys) ≡ true → xs ≢ ys
texts_differ xs ys h e = wrong (same_text xs ys) (same_text_of xs ys e) h
  where
    wrong : (b : Bool) → b ≡ true → not b ≡ true → ⊥
    wrong true e f = cc f
    wrong false e f = cc e

pub implied : (a b : Bool) → (not a || b) ≡ true → a ≡ true → b ≡ true
implied true b h e = h
implied false b h e = cc e

pub not_shared : (b : Bool) → not b ≡ true → b ≡ true → ⊥
not_shared true h e = cc h
not_shared false h e = cc e
