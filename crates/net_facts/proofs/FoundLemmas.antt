-- Lemmas about `Found`, the places at which the items of a list satisfy a predicate.
use Rattle.std.proofs.Common.{◌≡◌, ◌≢◌, ℕ, zero, suc, ◌+◌, ◌<◌, ◌==◌, Bool, true, false, not, ◌&&◌, List, length, Option, Some, None, refl, sym, ◌∙◌, ap, subst, arith, add-one, cond}
use Rattle.std.specs.Prelude.{slice_get, if◌then◌else◌}
use Rattle.std.proofs.lemmas.Option.{slice_get_within}
use Rattle.std.proofs.lemmas.Bool.{eqb-true, and_from, false_from_ne_true, not_from_false, not-true}
use Rattle.lists.proofs.Booleans.{same_truth, clash, eqb_refl, and_left, and_right}
use Rattle.board_defs.specs.Decided.{any_below, any_other}
use Rattle.board_defs.proofs.Places.{FoundBelow, below_place, below_at, FoundElsewhere, other_place, other_at}
use Rattle.net_facts.specs.declared.found.Found.{Found}
use Rattle.net_facts.specs.declared.found.Found.TheVariants.{Nowhere, At, Several}
use Rattle.net_facts.specs.inner.Found.{found_with, is_elsewhere_of, found_below}

pub found_more : (test : ℕ → Bool) (k : ℕ) (found next : Found) (passes : Bool)
    → found ≡ found_below test k → passes ≡ test k
    → next ≡ (if passes then found_with found k else found) → next ≡ found_below test (k + 1)
found_more test k found next passes f p g =
    g ∙ ap (λ v. cond passes (found_with v k) v) f
    ∙ ap (λ t. cond t (found_with (found_below test k) k) (found_below test k)) p
    ∙ ap (found_below test) (sym (add-one k))

-- The three cases of `found` for the places below `k`: none satisfies `test`, only place `i` does, or at
-- least two do.
data Places (test : ℕ → Bool) (k : ℕ) (found : Found) : Type 0 where
  none : found ≡ Nowhere → ((j : ℕ) → j < k → test j ≡ false) → Places test k found
  one : (i : ℕ) → found ≡ At i → i < k → test i ≡ true → ((j : ℕ) → j < k → test j ≡ true → j ≡ i) → Places test k found
  several : (i j : ℕ) → found ≡ Several → i < k → j < k → i ≢ j → test i ≡ true → test j ≡ true → Places test k found

places : (test : ℕ → Bool) (k : ℕ) → Places test k (found_below test k)
places test zero = none refl (λ j h. absurd (omega arith))
places test (suc k) = by_test (test k) refl (places test k)
  where
    by_test : (t : Bool) → test k ≡ t → Places test k (found_below test k)
        → Places test (suc k) (cond t (found_with (found_below test k) k) (found_below test k))
    by_test false e (none f h) = none f (λ j l. last j l (j == k) refl)
      where
        last : (j : ℕ) → j < suc k → (t : Bool) → (j == k) ≡ t → test j ≡ false
        last j l true s = ap test (eqb-true j k s) ∙ e
        last j l false s = let less : j < k = grind arith in h j less
    by_test false e (one i f l ti h) = one i f (omega arith) ti (λ j m tj. last j m tj (j == k) refl)
      where
        last : (j : ℕ) → j < suc k → test j ≡ true → (t : Bool) → (j == k) ≡ t → j ≡ i
        last j m tj true s = absurd (clash (test j) tj (ap test (eqb-true j k s) ∙ e))
        last j m tj false s = let less : j < k = grind arith in h j less tj
    by_test false e (several i j f l m ne ti tj) = several i j f (omega arith) (omega arith) ne ti tj
    by_test true e (none f h) = one k (ap (λ v. found_with v k) f) (omega arith) e (λ j l tj. last j l tj (j == k) refl)
      where
        last : (j : ℕ) → j < suc k → test j ≡ true → (t : Bool) → (j == k) ≡ t → j ≡ k
        last j l tj true s = eqb-true j k s
        last j l tj false s = let less : j < k = grind arith in absurd (clash (test j) tj (h j less))
    by_test true e (one i f l ti h) = several i k (ap (λ v. found_with v k) f) (omega arith) (omega arith) (λ (s : i ≡ k). omega arith) ti e
    by_test true e (several i j f l m ne ti tj) = several i j (ap (λ v. found_with v k) f) (omega arith) (omega arith) ne ti tj

abbrev other_than : (ℕ → Bool) → ℕ → ℕ → Bool
other_than test i j = test j && not (j == i)

differs : (j i : ℕ) → j ≢ i → not (j == i) ≡ true
differs j i ne = not_from_false (j == i) (false_from_ne_true (j == i) (λ e. ne (eqb-true j i e)))

elsewhere_below : (test : ℕ → Bool) (k i : ℕ) → is_elsewhere_of (found_below test k) i ≡ any_below k (other_than test i)
elsewhere_below test k i = by_places (places test k)
  where
    by_places : Places test k (found_below test k) → is_elsewhere_of (found_below test k) i ≡ any_below k (other_than test i)
    by_places (none f h) =
        ap (λ v. is_elsewhere_of v i) f
        ∙ sym
        (false_from_ne_true (any_below k (other_than test i))
        (λ a. let r : FoundBelow k (other_than test i) = below_place k (other_than test i) a
        in
        clash (test r.number) (and_left (test r.number) (not (r.number == i)) r.passes)
        (h r.number r.below)))
    by_places (one p f l tp h) = ap (λ v. is_elsewhere_of v i) f ∙ same_truth (not (p == i)) (any_below k (other_than test i))
        (λ n. below_at k (other_than test i) p l (and_from (test p) (not (p == i)) tp n))
        (λ a. let r : FoundBelow k (other_than test i) = below_place k (other_than test i) a in
        let is : r.number ≡ p = h r.number r.below (and_left (test r.number) (not (r.number == i)) r.passes) in
        let P : ℕ → Type 0 = λ n. not (n == i) ≡ true in
        subst P is (and_right (test r.number) (not (r.number == i)) r.passes))
    by_places (several p q f l m ne tp tq) = ap (λ v. is_elsewhere_of v i) f ∙ sym (by_first (p == i) refl)
      where
        by_first : (t : Bool) → (p == i) ≡ t → any_below k (other_than test i) ≡ true
        by_first false e = below_at k (other_than test i) p l (and_from (test p) (not (p == i)) tp (not_from_false (p == i) e))
        by_first true e =
            below_at k (other_than test i) q m
            (and_from (test q) (not (q == i)) tq (differs q i (λ s. ne (eqb-true p i e ∙ sym s))))

-- there is an item, and `test` is true of it
abbrev pub passes_in : {X : Type 0} → (X → Bool) → Option X → Bool
passes_in test None = false
passes_in test (Some x) = test x

some_passes : {X : Type 0} (test : X → Bool) (o : Option X) → passes_in test o ≡ true → (x : X) × (o ≡ Some x) × (test x ≡ true)
some_passes test None h = cc h
some_passes test (Some x) h = (x, refl, h)

pub elsewhere_is : {X : Type 0} (holds : X → Bool) (test : ℕ → Bool) (xs : List X) (place : ℕ)
    → ((k : ℕ) → test k ≡ passes_in holds (slice_get xs k))
    → is_elsewhere_of (found_below test (length xs)) place ≡ any_other holds place xs
elsewhere_is holds test xs place h =
    elsewhere_below test (length xs) place
    ∙ same_truth (any_below (length xs) (other_than test place)) (any_other holds place xs) there
    back
  where
    there : any_below (length xs) (other_than test place) ≡ true → any_other holds place xs ≡ true
    there a =
        let r : FoundBelow (length xs) (other_than test place) = below_place (length xs) (other_than test place) a in
        let q = some_passes holds (slice_get xs r.number)
        (sym (h r.number) ∙ and_left (test r.number) (not (r.number == place)) r.passes) in
        other_at holds place xs r.number q.0 q.1
        (λ e. clash (r.number == place) (ap (λ n. r.number == n) (sym e) ∙ eqb_refl r.number)
        (not-true (r.number == place)
        (and_right (test r.number) (not (r.number == place)) r.passes))) q.2

    back : any_other holds place xs ≡ true → any_below (length xs) (other_than test place) ≡ true
    back a =
        let r : FoundElsewhere holds place xs = other_place holds place xs a in
        below_at (length xs) (other_than test place) r.place (slice_get_within xs r.place r.item r.stands)
        (and_from (test r.place) (not (r.place == place))
        (h r.place ∙ ap (passes_in holds) r.stands ∙ r.passes)
        (differs r.place place r.elsewhere))
