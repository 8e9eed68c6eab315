-- Lemmas about rows that are made by setting one bit after another.
use Rattle.std.proofs.Common.{◌≡◌, ℕ, ◌<◌, ◌≤◌, Bool, true, false, List, [], ◌∷◌, fold, length, get_or, set, refl, sym, ap, ◌∙◌, arith, length-set, ◌⊎◌, inl, inr}
use Rattle.std.proofs.lemmas.Bool.{cases_eq, cases_lt}
use Rattle.std.proofs.lemmas.List.{ext_get_or, get_or-set_same, get_or-set_other, get_or_past, set_comm}
use Rattle.std.proofs.lemmas.List.Sums.{fold-append}
use Rattle.std.specs.List.{flat_map}
use Rattle.board_defs.proofs.Members.{Has}
use Rattle.plan_tables.specs.Assigned.{assigned}

pub length-assigned : {X : Type 0} (place : X → ℕ) (bit : X → Bool) (start : List Bool)
    (xs : List X) → length (assigned place bit start xs) ≡ length start
length-assigned place bit start [] = refl
length-assigned place bit start (x ∷ xs) = length-assigned place bit (set start (place x) (bit x)) xs ∙ length-set start (place x) (bit x)

-- If each item sets a correct bit, and the items cover each bit that is not correct at the start, all bits are correct
-- at the end.
pub assigned_is : {X : Type 0} (place : X → ℕ) (bit : X → Bool) (xs : List X) (start target : List Bool) → length start ≡ length target →
    ((x : X) → Has xs x → (place x < length target) × (get_or target (place x) false ≡ bit x)) →
    ((i : ℕ) → i < length target → (get_or start i false ≡ get_or target i false) ⊎ ((x : X) × Has xs x × (place x ≡ i))) →
    assigned place bit start xs ≡ target
assigned_is {X} place bit [] start target same right cover =
    ext_get_or false start target same (λ i less. by_case i (cover i (omega (arith, same, less))))
  where
    by_case : (i : ℕ)
        → (get_or start i false ≡ get_or target i false) ⊎ ((x : X) × ⊥ × (place x ≡ i))
        → get_or start i false ≡ get_or target i false
    by_case i (inl e) = e
    by_case i (inr (x, none, e)) = absurd none
assigned_is {X} place bit (y ∷ xs) start target same right cover =
    assigned_is place bit xs (set start (place y) (bit y)) target
    (length-set start (place y) (bit y) ∙ same) (λ x h. right x (inr h))
    (λ i less. by_place i less (cases_eq i (place y)) (cover i less))
  where
    Covered : ℕ → Type 0
    Covered i = (get_or (set start (place y) (bit y)) i false ≡ get_or target i false) ⊎ ((x : X) × Has xs x × (place x ≡ i))

    here : (i : ℕ) → i < length target → i ≡ place y → get_or (set start (place y) (bit y)) i false ≡ get_or target i false
    here i less e =
        let within : place y < length start = omega (arith, same, less, e) in
        ap (λ (k : ℕ). get_or (set start (place y) (bit y)) k false) e ∙ get_or-set_same start (place y) (bit y) false within
        ∙ sym (right y (inl refl)).1
        ∙ sym (ap (λ (k : ℕ). get_or target k false) e)

    by_place : (i : ℕ) → i < length target → (i ≡ place y) ⊎ (i ≡ place y → ⊥) →
        (get_or start i false ≡ get_or target i false) ⊎ ((x : X) × Has (y ∷ xs) x × (place x ≡ i)) →
        (get_or (set start (place y) (bit y)) i false ≡ get_or target i false) ⊎ ((x : X) × Has xs x × (place x ≡ i))
    by_place i less (inl e) c = inl (here i less e)
    by_place i less (inr other) (inl e) = inl (get_or-set_other start (place y) i (bit y) false other ∙ e)
    by_place i less (inr other) (inr (x, inl same_item, at)) = absurd (other (sym at ∙ sym (ap place same_item)))
    by_place i less (inr other) (inr (x, inr h, at)) = inr (x, h, at)

set_apart : {X : Type 0} (place : X → ℕ) (bit : X → Bool) (xs : List X) (start : List Bool) (p : ℕ)
    (b : Bool) → ((x : X) → Has xs x → place x ≡ p → ⊥) →
    assigned place bit (set start p b) xs ≡ set (assigned place bit start xs) p b
set_apart place bit [] start p b apart = refl
set_apart place bit (x ∷ xs) start p b apart =
    ap (λ (l : List Bool). assigned place bit l xs) (set_comm start p (place x) b (bit x) (λ e. apart x (inl refl) (sym e)))
    ∙ set_apart place bit xs (set start (place x) (bit x)) p b (λ y h. apart y (inr h))

pub assigned_apart : {X Y : Type 0} (place : X → ℕ) (bit : X → Bool) (spot : Y → ℕ)
    (value : Y → Bool) (start : List Bool) (xs : List X) (ys : List Y) →
    ((x : X) (y : Y) → Has xs x → Has ys y → place x ≡ spot y → ⊥)
    → assigned place bit (assigned spot value start ys) xs
    ≡ assigned spot value (assigned place bit start xs) ys
assigned_apart place bit spot value start xs [] apart = refl
assigned_apart place bit spot value start xs (y ∷ ys) apart =
    assigned_apart place bit spot value (set start (spot y) (value y)) xs ys (λ x z h k. apart x z h (inr k))
    ∙ ap (λ (l : List Bool). assigned spot value l ys) (set_apart place bit xs start (spot y) (value y) (λ x h. apart x y h (inl refl)))

pub fold_groups : {X G S : Type 0} (step : S → X → S) (items : G → List X) (groups : List G)
    (start : S)
    → fold (λ done g. fold step done (items g)) start groups
    ≡ fold step start (flat_map items groups)
fold_groups step items [] start = refl
fold_groups step items (g ∷ groups) start =
    fold_groups step items groups (fold step start (items g))
    ∙ sym (fold-append step start (items g) (flat_map items groups))

pub assigned_groups : {X G : Type 0} (place : X → ℕ) (bit : X → Bool) (items : G → List X) (groups : List G) (start : List Bool) →
    fold (λ done g. assigned place bit done (items g)) start groups ≡ assigned place bit start (flat_map items groups)
assigned_groups place bit items groups start = fold_groups (λ bits x. set bits (place x) (bit x)) items groups start

flag_stays : (flags : List Bool) (p i : ℕ) → get_or flags i false ≡ true → get_or (set flags p true) i false ≡ true
flag_stays flags p i e = by_place (cases_eq i p) (cases_lt i (length flags))
  where
    by_place : (i ≡ p) ⊎ (i ≡ p → ⊥) → (i < length flags) ⊎ (length flags ≤ i) → get_or (set flags p true) i false ≡ true
    by_place (inr other) there = get_or-set_other flags p i true false other ∙ e
    by_place (inl same) (inl less) =
        ap (λ (k : ℕ). get_or (set flags p true) k false) same
        ∙ get_or-set_same flags p true false (omega (arith, less, same))
    by_place (inl same) (inr past) = let bad : false ≡ true = sym (get_or_past flags i false past) ∙ e in cc bad

pub mark_stays : {X : Type 0} (place : X → ℕ) (xs : List X) (flags : List Bool) (i : ℕ)
    → get_or flags i false ≡ true → get_or (assigned place (λ x. true) flags xs) i false ≡ true
mark_stays place [] flags i e = e
mark_stays place (x ∷ xs) flags i e = mark_stays place xs (set flags (place x) true) i (flag_stays flags (place x) i e)

pub has_mark : {X : Type 0} (place : X → ℕ) (xs : List X) (flags : List Bool) (x : X) → Has xs x
    → place x < length flags → get_or (assigned place (λ x. true) flags xs) (place x) false ≡ true
has_mark place [] flags x h less = absurd h
has_mark place (y ∷ xs) flags x (inl e) less =
    mark_stays place xs (set flags (place y) true) (place x)
    (ap (λ z. get_or (set flags (place y) true) (place z) false) (sym e)
    ∙ get_or-set_same flags (place y) true false (omega (arith, less, ap place e)))
has_mark place (y ∷ xs) flags x (inr h) less =
    has_mark place xs (set flags (place y) true) x h
    (omega (arith, less, length-set flags (place y) true))

pub mark_has : {X : Type 0} (place : X → ℕ) (xs : List X) (flags : List Bool) (i : ℕ)
    → get_or (assigned place (λ x. true) flags xs) i false ≡ true →
    (get_or flags i false ≡ true) ⊎ ((x : X) × Has xs x × (place x ≡ i))
mark_has place [] flags i e = inl e
mark_has {X} place (y ∷ xs) flags i e = by_later (mark_has place xs (set flags (place y) true) i e)
  where
    by_place : (i ≡ place y) ⊎ (i ≡ place y → ⊥) → get_or (set flags (place y) true) i false ≡ true
        → (get_or flags i false ≡ true) ⊎ ((x : X) × Has (y ∷ xs) x × (place x ≡ i))
    by_place (inl same) k = inr (y, inl refl, sym same)
    by_place (inr other) k = inl (sym (get_or-set_other flags (place y) i true false other) ∙ k)

    by_later : (get_or (set flags (place y) true) i false ≡ true)
        ⊎ ((x : X) × Has xs x × (place x ≡ i))
        → (get_or flags i false ≡ true) ⊎ ((x : X) × Has (y ∷ xs) x × (place x ≡ i))
    by_later (inl k) = by_place (cases_eq i (place y)) k
    by_later (inr (x, h, at)) = inr (x, inr h, at)
