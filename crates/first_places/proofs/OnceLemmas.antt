-- Lemmas about a loop that goes through a list and keeps the items that equal no earlier item.
use Rattle.std.proofs.Common.{◌≡◌, ℕ, suc, ◌+◌, ◌<◌, ◌≤◌, Bool, true, false, cond, not, ◌||◌, List, [], ◌∷◌, ◌++◌, length, take, drop, get_or, Option, Some, None, refl, sym, ap, ◌∙◌, append_assoc, append-nil, length-append, arith}
use Rattle.std.proofs.lemmas.List.{drop_more, take_more}
use Rattle.std.proofs.lemmas.List.Folds.{list_any-append}
use Rattle.std.specs.List.{list_any}
use Rattle.first_places.specs.Places.{once, once_from, first_repeated, repeated_from}

seen_more : {I : Type 0} (items : List I) (i : ℕ) (x : I) → i < length items → get_or items i x ≡ x
    → take i items ++ x ∷ [] ≡ take (i + 1) items
seen_more items i x within read = ap (λ y. take i items ++ y ∷ []) (sym read) ∙ sym (take_more items i x within)

cut_at : {I : Type 0} (items : List I) (i : ℕ) (x : I) → i < length items → get_or items i x ≡ x → drop i items ≡ x ∷ drop (i + 1) items
cut_at items i x within read = drop_more items i x within ∙ ap (λ y. y ∷ drop (i + 1) items) read

either : (a b : Bool) → (a || (b || false)) ≡ cond b true a
either true true = refl
either true false = refl
either false true = refl
either false false = refl

pub seen_step : {I : Type 0} (test : I → Bool) (items : List I) (i : ℕ) (x : I) (new old : Bool) → i < length items → get_or items i x ≡ x →
    old ≡ list_any test (take i items) → new ≡ cond (test x) true old → new ≡ list_any test (take (i + 1) items)
seen_step test items i x new old within read was now =
    now ∙ ap (cond (test x) true) was ∙ sym (either (list_any test (take i items)) (test x))
    ∙ sym (list_any-append test (take i items) (x ∷ []))
    ∙ ap (list_any test) (seen_more items i x within read)

-- if item `i` equals no earlier item, item `i` is the next item that is kept
pub once_new : {I : Type 0} (eq : I → I → Bool) (items : List I) (i : ℕ) (x : I) (done all : List I)
    → i < length items → get_or items i x ≡ x →
    list_any (λ s. eq s x) (take i items) ≡ false → all ≡ done ++ once_from eq (take i items) (drop i items) →
    all ≡ (done ++ x ∷ []) ++ once_from eq (take (i + 1) items) (drop (i + 1) items)
once_new eq items i x done all within read fresh same =
    same ∙ ap (λ l. done ++ once_from eq (take i items) l) (cut_at items i x within read)
    ∙ ap
    (λ b. done
    ++ cond b (once_from eq (take i items ++ x ∷ []) (drop (i + 1) items))
    (x ∷ once_from eq (take i items ++ x ∷ []) (drop (i + 1) items))) fresh
    ∙ ap (λ s. done ++ x ∷ once_from eq s (drop (i + 1) items)) (seen_more items i x within read)
    ∙ sym (append_assoc done (x ∷ []) (once_from eq (take (i + 1) items) (drop (i + 1) items)))

-- if item `i` equals an earlier item, it is not kept
pub once_old : {I : Type 0} (eq : I → I → Bool) (items : List I) (i : ℕ) (x : I) (done all : List I)
    → i < length items → get_or items i x ≡ x →
    list_any (λ s. eq s x) (take i items) ≡ true → all ≡ done ++ once_from eq (take i items) (drop i items) →
    all ≡ done ++ once_from eq (take (i + 1) items) (drop (i + 1) items)
once_old eq items i x done all within read there same =
    same ∙ ap (λ l. done ++ once_from eq (take i items) l) (cut_at items i x within read)
    ∙ ap
    (λ b. done
    ++ cond b (once_from eq (take i items ++ x ∷ []) (drop (i + 1) items))
    (x ∷ once_from eq (take i items ++ x ∷ []) (drop (i + 1) items))) there
    ∙ ap (λ s. done ++ once_from eq s (drop (i + 1) items)) (seen_more items i x within read)

pub repeated_new : {I : Type 0} (eq : I → I → Bool) (items : List I) (i : ℕ) (x : I)
    (all : Option I) → i < length items → get_or items i x ≡ x →
    list_any (λ s. eq s x) (take i items) ≡ false
    → all ≡ repeated_from eq (take i items) (drop i items)
    → all ≡ repeated_from eq (take (i + 1) items) (drop (i + 1) items)
repeated_new eq items i x all within read fresh same =
    same ∙ ap (repeated_from eq (take i items)) (cut_at items i x within read)
    ∙ ap (λ b. cond b (Some x) (repeated_from eq (take i items ++ x ∷ []) (drop (i + 1) items))) fresh
    ∙ ap (λ s. repeated_from eq s (drop (i + 1) items)) (seen_more items i x within read)

pub repeated_old : {I : Type 0} (eq : I → I → Bool) (items : List I) (i : ℕ) (x : I)
    (all : Option I) → i < length items → get_or items i x ≡ x →
    list_any (λ s. eq s x) (take i items) ≡ true → all ≡ repeated_from eq (take i items) (drop i items) → all ≡ Some x
repeated_old eq items i x all within read there same =
    same ∙ ap (repeated_from eq (take i items)) (cut_at items i x within read)
    ∙ ap (λ b. cond b (Some x) (repeated_from eq (take i items ++ x ∷ []) (drop (i + 1) items))) there

-- the step of the loop for item `i`, which is kept if and only if it equals no earlier item
pub once_step : {I : Type 0} (eq : I → I → Bool) (items : List I) (i : ℕ) (x : I)
    (done kept all : List I) (was : Bool) → i < length items → get_or items i x ≡ x →
    was ≡ list_any (λ s. eq s x) (take i items) → kept ≡ cond was done (done ++ x ∷ [])
    → all ≡ done ++ once_from eq (take i items) (drop i items) →
    all ≡ kept ++ once_from eq (take (i + 1) items) (drop (i + 1) items)
once_step {I} eq items i x done kept all false within read found taken same =
    once_new eq items i x done all within read (sym found) same
    ∙ ap (λ (k : List I). k ++ once_from eq (take (i + 1) items) (drop (i + 1) items))
    (sym taken)
once_step {I} eq items i x done kept all true within read found taken same =
    once_old eq items i x done all within read (sym found) same
    ∙ ap (λ (k : List I). k ++ once_from eq (take (i + 1) items) (drop (i + 1) items))
    (sym taken)

-- the two forms of the list `done` with `x` appended unless `was` is true
pub unless : {I : Type 0} (was : Bool) (done : List I) (x : I) → done ++ cond (not was) (x ∷ []) [] ≡ cond was done (done ++ x ∷ [])
unless true done x = append-nil done
unless false done x = refl

pub one_more : {I : Type 0} (was : Bool) (done : List I) (x : I) → length (cond was done (done ++ x ∷ [])) ≤ length done + 1
one_more true done x = omega arith
one_more false done x = omega (arith, length-append done (x ∷ []))

few : {I : Type 0} (was : Bool) (kept : List I) (i : I) (n : ℕ) → length kept ≤ n → length (cond was kept (i ∷ kept)) ≤ suc n
few true kept i n within = omega arith
few false kept i n within = omega arith

pub once_few : {I : Type 0} (eq : I → I → Bool) (seen items : List I) → length (once_from eq seen items) ≤ length items
once_few eq seen [] = omega arith
once_few eq seen (i ∷ items) =
    few (list_any (λ s. eq s i) seen) (once_from eq (seen ++ i ∷ []) items) i (length items)
    (once_few eq (seen ++ i ∷ []) items)

none_finer : {I : Type 0} (p q : I → Bool) → ((i : I) → p i ≡ false → q i ≡ false)
    → (items : List I) → list_any p items ≡ false → list_any q items ≡ false
none_finer p q h [] e = refl
none_finer {I} p q h (i ∷ items) e = by_test (none_finer p q h items) (p i) refl e
  where
    by_test : (list_any p items ≡ false → list_any q items ≡ false) → (b : Bool) → p i ≡ b
        → (b || list_any p items) ≡ false → (q i || list_any q items) ≡ false
    by_test rest true t k = cc k
    by_test rest false t k = ap (λ b. b || list_any q items) (h i t) ∙ rest k

whole_from : {I : Type 0} (eq fine : I → I → Bool) → ((a b : I) → eq a b ≡ false → fine a b ≡ false)
    → (seen items : List I) → repeated_from eq seen items ≡ None → once_from fine seen items ≡ items
whole_from eq fine h seen [] e = refl
whole_from {I} eq fine h seen (i ∷ items) e = by_test (whole_from eq fine h (seen ++ i ∷ []) items) (list_any (λ s. eq s i) seen) refl e
  where
    by_test :
        (repeated_from eq (seen ++ i ∷ []) items ≡ None
        → once_from fine (seen ++ i ∷ []) items ≡ items) → (b : Bool)
        → list_any (λ s. eq s i) seen ≡ b
        → cond b (Some i) (repeated_from eq (seen ++ i ∷ []) items) ≡ None →
        cond (list_any (λ s. fine s i) seen) (once_from fine (seen ++ i ∷ []) items) (i ∷ once_from fine (seen ++ i ∷ []) items) ≡ i ∷ items
    by_test rest true t k = cc k
    by_test rest false t k =
        ap
        (λ b. cond b (once_from fine (seen ++ i ∷ []) items)
        (i ∷ once_from fine (seen ++ i ∷ []) items))
        (none_finer (λ s. eq s i) (λ s. fine s i) (λ s. h s i) seen t)
        ∙ ap (λ (v : List I). i ∷ v) (rest k)

-- If no item equals an earlier one by `eq`, none does by the finer equality `fine`, so `once` with `fine` keeps all items.
pub unrepeated : {I : Type 0} (eq fine : I → I → Bool)
    → ((a b : I) → eq a b ≡ false → fine a b ≡ false) → (items : List I)
    → first_repeated eq items ≡ None → once fine items ≡ items
unrepeated eq fine h items e = whole_from eq fine h [] items e
