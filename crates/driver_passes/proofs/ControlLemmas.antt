-- Lemmas about lists of controls in control order, and about the controls of a setting.
use Rattle.std.proofs.Common.{◌≡◌, ◌≢◌, ◌⊎◌, inl, inr, ℕ, zero, suc, ◌<◌, Bool, true, false, ◌&&◌, ◌||◌, List, [], ◌∷◌, get_or, Some, refl, sym, ◌∙◌, ap, subst, arith, cond}
use Rattle.std.specs.Prelude.{slice_get, All, IsTrue}
use Rattle.std.specs.List.{list_all}
use Rattle.std.proofs.lemmas.Bool.Decides.{nat_tests}
use Rattle.std.proofs.lemmas.Bool.{cases_order, or_cases}
use Rattle.std.proofs.lemmas.Option.{slice_get_within, get_or_from_slice_get}
use Rattle.board_defs.specs.declared.board.Ctl.{Ctl}
use Rattle.board_defs.specs.Settings.{same_ctl, precedes, holds, inserted, IsInControlOrder}
use Rattle.board_defs.proofs.ControlOrder.{same_equal, same_refl}

pub after_is : (a b : Ctl) → precedes a b ≡ true → (precedes b a ≡ false) × (same_ctl a b ≡ false) × (same_ctl b a ≡ false)
after_is a b h = (grind (arith, nat_tests), grind (arith, nat_tests), grind (arith, nat_tests))

pub itself_is : (c : Ctl) → precedes c c ≡ false
itself_is c = grind (arith, nat_tests)

pub order_rest : (c : Ctl) (controls : List Ctl) → IsInControlOrder (c ∷ controls) → IsInControlOrder controls
order_rest c controls order i j d less within = order (suc i) (suc j) d (omega arith) (omega arith)

-- every control in the list comes after `c` in control order
abbrev pub ComeAfter : Ctl → List Ctl → Type 0
ComeAfter c controls = All (λ d. IsTrue (precedes c d)) controls

pub come_after : (c : Ctl) (controls : List Ctl) → IsInControlOrder (c ∷ controls) → ComeAfter c controls
come_after c controls order k d less = order 0 (suc k) d (omega arith) (omega arith)

pub order_with : (c : Ctl) (controls : List Ctl) → ComeAfter c controls → IsInControlOrder controls → IsInControlOrder (c ∷ controls)
order_with c controls after order i zero d less within = absurd (omega arith)
order_with c controls after order zero (suc j) d less within = after j d (omega arith)
order_with c controls after order (suc i) (suc j) d less within = order i j d (omega arith) (omega arith)

pub insert_before : (c : Ctl) (setting : List Ctl) → ComeAfter c setting → inserted c setting ≡ c ∷ setting
insert_before c [] after = refl
insert_before c (d ∷ setting) after =
    let r : (precedes d c ≡ false) × (same_ctl c d ≡ false) × (same_ctl d c ≡ false) = after_is c d (after 0 d (omega arith)) in
    ap (λ t. cond t (d ∷ inserted c setting) (cond (same_ctl c d) (d ∷ setting) (c ∷ d ∷ setting)))
    r.0 ∙ ap (λ t. cond t (d ∷ setting) (c ∷ d ∷ setting)) r.1

pub insert_front : (c : Ctl) (setting : List Ctl) → inserted c (c ∷ setting) ≡ c ∷ setting
insert_front c setting =
    ap (λ t. cond t (c ∷ inserted c setting) (cond (same_ctl c c) (c ∷ setting) (c ∷ c ∷ setting)))
    (itself_is c) ∙ ap (λ t. cond t (c ∷ setting) (c ∷ c ∷ setting)) (same_refl c)

pub insert_behind : (c d : Ctl) (setting : List Ctl) → precedes d c ≡ true → inserted c (d ∷ setting) ≡ d ∷ inserted c setting
insert_behind c d setting h = ap (λ t. cond t (d ∷ inserted c setting) (cond (same_ctl c d) (d ∷ setting) (c ∷ d ∷ setting))) h

pub none_holds : (c : Ctl) (setting : List Ctl) → ComeAfter c setting → holds setting c ≡ false
none_holds c [] after = refl
none_holds c (d ∷ setting) after =
    let r : (precedes d c ≡ false) × (same_ctl c d ≡ false) × (same_ctl d c ≡ false) = after_is c d (after 0 d (omega arith)) in
    ap (λ t. t || holds setting c) r.1 ∙ none_holds c setting (λ k e less. after (suc k) e (omega arith))

pub all_inserted : (p : Ctl → Bool) (c : Ctl) (setting : List Ctl) → list_all p (inserted c setting) ≡ (p c && list_all p setting)
all_inserted p c [] = refl
all_inserted p c (d ∷ setting) = by_order (all_inserted p c setting) (precedes d c) (same_ctl c d) refl
  where
    swap : (a b r : Bool) → (a && (b && r)) ≡ (b && (a && r))
    swap true b r = refl
    swap false true r = refl
    swap false false r = refl

    twice : (a b r : Bool) → a ≡ b → (b && r) ≡ (a && (b && r))
    twice true b r e = refl
    twice false true r e = cc e
    twice false false r e = refl

    by_order : list_all p (inserted c setting) ≡ (p c && list_all p setting) → (t s : Bool) → same_ctl c d ≡ s →
        list_all p (cond t (d ∷ inserted c setting) (cond s (d ∷ setting) (c ∷ d ∷ setting))) ≡ (p c && (p d && list_all p setting))
    by_order rest true s e = ap (λ t. p d && t) rest ∙ swap (p d) (p c) (list_all p setting)
    by_order rest false true e = twice (p c) (p d) (list_all p setting) (ap p (same_equal c d e))
    by_order rest false false e = refl

pub holds_of : (P : Ctl → Type 0) (controls : List Ctl) (c : Ctl) → All P controls → holds controls c ≡ true → P c
holds_of P [] c all h = cc h
holds_of P (d ∷ controls) c all h =
    by_part (holds_of P controls c (λ k e less. all (suc k) e (omega (arith, less))))
    (or_cases (same_ctl c d) (holds controls c) h)
  where
    by_part : (holds controls c ≡ true → P c) → (same_ctl c d ≡ true) ⊎ (holds controls c ≡ true) → P c
    by_part rest (inl same) = subst P (sym (same_equal c d same)) (all 0 d (omega arith))
    by_part rest (inr later) = rest later

pub other_place : (controls : List Ctl) (p q : ℕ) (c e : Ctl) → IsInControlOrder controls
    → slice_get controls p ≡ Some c → slice_get controls q ≡ Some e → p ≢ q → same_ctl e c ≡ false
other_place controls p q c e order at at' differ = by_order (cases_order p q)
  where
    first : get_or controls p c ≡ c
    first = get_or_from_slice_get controls p c c at

    second : get_or controls q c ≡ e
    second = get_or_from_slice_get controls q e c at'

    by_order : (p ≡ q) ⊎ ((p < q) ⊎ (q < p)) → same_ctl e c ≡ false
    by_order (inl same) = absurd (differ same)
    by_order (inr (inl less)) =
        (after_is c e
        (sym (ap (λ d. precedes d e) first) ∙ sym (ap (precedes (get_or controls p c)) second)
        ∙ order p q c less (slice_get_within controls q e at'))).2
    by_order (inr (inr less)) =
        (after_is e c
        (sym (ap (λ d. precedes d c) second) ∙ sym (ap (precedes (get_or controls q c)) first)
        ∙ order q p c less (slice_get_within controls p c at))).1
