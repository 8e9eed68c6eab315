-- Lemmas about the number of a key among the different keys of a list.
use Rattle.std.proofs.Common.{◌≡◌, ℕ, ◌+◌, ◌<◌, Bool, true, false, cond, not, ◌||◌, List, [], ◌∷◌, ◌++◌, length, map, take, get_or, Some, sym, ap, ◌∙◌, append_assoc, arith}
use Rattle.std.specs.Prelude.{unwrap_or}
use Rattle.std.specs.List.{list_any, position_from, position_or_len}
use Rattle.std.specs.Cmp.{IsEquivalence}
use Rattle.std.proofs.lemmas.List.{map-append, take_more}
use Rattle.first_places.specs.Places.{first_place, place_or_zero}

found_early : {K : Type 0} (p q : K → Bool) → ((k : K) → p k ≡ q k) → (n : ℕ) (front back : List K)
    → list_any q front ≡ true
    → position_from p n (front ++ back) ≡ Some (n + position_or_len q front)
found_early p q same n [] back e = cc e
found_early {K} p q same n (k ∷ front) back e =
    ap (λ b. cond b (Some n) (position_from p (n + 1) (front ++ back))) (same k) ∙ by_test (found_early p q same (n + 1) front back) (q k) e
  where
    by_test :
        (list_any q front ≡ true
        → position_from p (n + 1) (front ++ back) ≡ Some (n + 1 + position_or_len q front))
        → (b : Bool) → (b || list_any q front) ≡ true →
        cond b (Some n) (position_from p (n + 1) (front ++ back)) ≡ Some (n + cond (not b) (1 + position_or_len q front) 0)
    by_test rest true t = let here : n ≡ n + 0 = omega arith in ap Some here
    by_test rest false t =
        let there : n + 1 + position_or_len q front
        ≡ n + (1 + position_or_len q front) = omega arith in
        rest t ∙ ap Some there

found_next : {K : Type 0} (p q : K → Bool) → ((k : K) → p k ≡ q k)
    → (n : ℕ) (front : List K) (k : K) (back : List K) → list_any q front ≡ false → p k ≡ true →
    position_from p n (front ++ k ∷ back) ≡ Some (n + position_or_len q front)
found_next p q same n [] k back e passes =
    let here : n ≡ n + 0 = omega arith in
    ap (λ b. cond b (Some n) (position_from p (n + 1) back)) passes ∙ ap Some here
found_next {K} p q same n (x ∷ front) k back e passes =
    ap (λ b. cond b (Some n) (position_from p (n + 1) (front ++ k ∷ back))) (same x)
    ∙ by_test (λ f. found_next p q same (n + 1) front k back f passes) (q x) e
  where
    by_test :
        (list_any q front ≡ false
        → position_from p (n + 1) (front ++ k ∷ back) ≡ Some (n + 1 + position_or_len q front))
        → (b : Bool) → (b || list_any q front) ≡ false →
        cond b (Some n) (position_from p (n + 1) (front ++ k ∷ back)) ≡ Some (n + cond (not b) (1 + position_or_len q front) 0)
    by_test rest true t = cc t
    by_test rest false t =
        let there : n + 1 + position_or_len q front
        ≡ n + (1 + position_or_len q front) = omega arith in
        rest t ∙ ap Some there

found_at : {K : Type 0} (eq : K → K → Bool) → IsEquivalence eq → (kept rest : List K) (x : K) (was : Bool) → was ≡ list_any (eq x) kept →
    first_place eq (cond was kept (kept ++ x ∷ []) ++ rest) x ≡ Some (position_or_len (eq x) kept)
found_at eq laws kept rest x true e =
    let start : 0 + position_or_len (eq x) kept ≡ position_or_len (eq x) kept = omega arith in
    found_early (λ k. eq k x) (eq x) (λ k. laws.symm k x) 0 kept rest (sym e) ∙ ap Some start
found_at eq laws kept rest x false e =
    let start : 0 + position_or_len (eq x) kept ≡ position_or_len (eq x) kept = omega arith in
    ap (position_from (λ k. eq k x) 0) (append_assoc kept (x ∷ []) rest)
    ∙ found_next (λ k. eq k x) (eq x) (λ k. laws.symm k x) 0 kept x rest (sym e) (laws.refl x)
    ∙ ap Some start

-- A step of the loop that numbers the keys: if the first `i` keys have their numbers in `before`, the first `i + 1` keys have theirs in
-- `after`.
pub number_step : {K : Type 0} (eq : K → K → Bool) → IsEquivalence eq
    → (keys : List K) (i : ℕ) (x : K) (old kept rest all : List K) (was : Bool) (number : ℕ)
    (before after : List ℕ) → i < length keys → get_or keys i x ≡ x →
    was ≡ list_any (eq x) old → kept ≡ cond was old (old ++ x ∷ []) → all ≡ kept ++ rest → number ≡ position_or_len (eq x) old →
    before ≡ map (place_or_zero eq all) (take i keys) → after ≡ before ++ number ∷ []
    → after ≡ map (place_or_zero eq all) (take (i + 1) keys)
number_step {K} eq laws keys i x old kept rest all was number before after within read seen taken same found done pushed =
    let place : first_place eq all x ≡ Some (position_or_len (eq x) old) =
    ap (λ (v : List K). first_place eq v x) (same ∙ ap (λ (v : List K). v ++ rest) taken) ∙ found_at eq laws old rest x was seen in
    let here : number ≡ place_or_zero eq all x = found ∙ sym (ap (λ o. unwrap_or o 0) place) in
    let more : take (i + 1) keys ≡ take i keys ++ x ∷ [] = take_more keys i x within ∙ ap (λ y. take i keys ++ y ∷ []) read in
    pushed ∙ ap (λ (v : List ℕ). v ++ number ∷ []) done ∙ ap (λ n. map (place_or_zero eq all) (take i keys) ++ n ∷ []) here
    ∙ sym (ap (map (place_or_zero eq all)) more ∙ map-append (place_or_zero eq all) (take i keys) (x ∷ []))
