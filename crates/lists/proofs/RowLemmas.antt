-- Lemmas about a table of lists after an item is added to it.
use Rattle.std.proofs.Common.{◌≡◌, ℕ, ◌<◌, ◌==◌, Bool, false, cond, List, [], ◌∷◌, ◌++◌, length, get_or, set, Option, Some, None, refl, sym, ap, ◌∙◌, length-set, ◌⊎◌, inl, inr}
use Rattle.std.proofs.lemmas.Bool.{cases_eq, eq-eqb, ne_eqb}
use Rattle.std.proofs.lemmas.List.{append-nil, get_or-set_same, get_or-set_other}
use Rattle.lists.specs.Rows.{noted}

-- true if there is a place and it is place `k`
abbrev pub is_at : ℕ → Option ℕ → Bool
is_at k None = false
is_at k (Some place) = place == k

pub noted_get : {A : Type 0} (rows : List (List A)) (place : Option ℕ) (item : A) (k : ℕ) → k < length rows →
    get_or (noted rows place item) k [] ≡ get_or rows k [] ++ cond (is_at k place) (item ∷ []) []
noted_get rows None item k less = sym (append-nil (get_or rows k []))
noted_get {A} rows (Some b) item k less = by_place (cases_eq k b)
  where
    by_place : (k ≡ b) ⊎ (k ≡ b → ⊥)
        → get_or (set rows b (get_or rows b [] ++ item ∷ [])) k []
        ≡ get_or rows k [] ++ cond (b == k) (item ∷ []) []
    by_place (inl e) =
        ap (λ (n : ℕ). get_or (set rows n (get_or rows n [] ++ item ∷ [])) k []) (sym e)
        ∙ get_or-set_same rows k (get_or rows k [] ++ item ∷ []) [] less
        ∙ ap (λ (t : Bool). get_or rows k [] ++ cond t (item ∷ []) []) (sym (eq-eqb b k (sym e)))
    by_place (inr ne) =
        get_or-set_other rows b k (get_or rows b [] ++ item ∷ []) [] ne
        ∙ sym (append-nil (get_or rows k []))
        ∙ ap (λ (t : Bool). get_or rows k [] ++ cond t (item ∷ []) []) (sym (ne_eqb b k (λ e. ne (sym e))))

pub length-noted : {A : Type 0} (rows : List (List A)) (place : Option ℕ) (item : A) → length (noted rows place item) ≡ length rows
length-noted rows None item = refl
length-noted rows (Some b) item = length-set rows b (get_or rows b [] ++ item ∷ [])
