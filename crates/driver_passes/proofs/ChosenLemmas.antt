-- Lemmas about `passing_controls`, which selects the controls whose places satisfy a test.
use Rattle.std.proofs.Common.{◌≡◌, ◌⊎◌, inl, inr, ℕ, zero, suc, ◌+◌, ◌-◌, ◌≤◌, ◌<◌, Bool, true, false, ◌||◌, List, [], ◌∷◌, length, get_or, drop, drop-cons, drop-drop, Some, refl, sym, ◌∙◌, ap, arith, cond}
use Rattle.std.specs.Prelude.{◌==◌, slice_get, IsTrue}
use Rattle.std.proofs.lemmas.Bool.{or_left, or_right, or_cases, eq-eqb, ne_eqb}
use Rattle.std.proofs.lemmas.Option.{slice_get_within, get_or_from_slice_get}
use Rattle.std.proofs.lemmas.List.Elements.{All-cons, All-nil, All-head, All-tail}
use Rattle.board_defs.specs.declared.board.Ctl.{Ctl}
use Rattle.board_defs.specs.Settings.{same_ctl, precedes, holds, inserted, IsInControlOrder}
use Rattle.board_defs.proofs.ControlOrder.{same_refl}
use Rattle.driver_passes.specs.inner.Drafts.{passing_controls}
use Rattle.driver_passes.proofs.ControlLemmas.{after_is, ComeAfter, come_after, order_rest, order_with, insert_before, insert_front, insert_behind, none_holds}

pub chosen_none : (p : ℕ → Bool) (place : ℕ) (controls : List Ctl) → ((n : ℕ) → p n ≡ false) → passing_controls p place controls ≡ []
chosen_none p place [] none = refl
chosen_none p place (c ∷ controls) none =
    ap
    (λ t. cond t (c ∷ passing_controls p (suc place) controls)
    (passing_controls p (suc place) controls)) (none place)
    ∙ chosen_none p (suc place) controls none

pub chosen_after : (d : Ctl) (p : ℕ → Bool) (place : ℕ) (controls : List Ctl) → ComeAfter d controls
    → ComeAfter d (passing_controls p place controls)
chosen_after d p place [] after = All-nil (λ (c : Ctl). IsTrue (precedes d c))
chosen_after d p place (c ∷ controls) after =
    by_test (p place)
    (chosen_after d p (suc place) controls
    (All-tail (λ (c : Ctl). IsTrue (precedes d c)) c controls after))
  where
    by_test : (t : Bool) → ComeAfter d (passing_controls p (suc place) controls)
        → ComeAfter d
        (cond t (c ∷ passing_controls p (suc place) controls)
        (passing_controls p (suc place) controls))
    by_test true rest =
        All-cons (λ (c : Ctl). IsTrue (precedes d c)) c (passing_controls p (suc place) controls)
        (All-head (λ (c : Ctl). IsTrue (precedes d c)) c controls after) rest
    by_test false rest = rest

pub chosen_order : (p : ℕ → Bool) (place : ℕ) (controls : List Ctl) → IsInControlOrder controls
    → IsInControlOrder (passing_controls p place controls)
chosen_order p place [] order = order
chosen_order p place (c ∷ controls) order = by_test (p place) (chosen_order p (suc place) controls (order_rest c controls order))
  where
    by_test : (t : Bool) → IsInControlOrder (passing_controls p (suc place) controls)
        → IsInControlOrder
        (cond t (c ∷ passing_controls p (suc place) controls)
        (passing_controls p (suc place) controls))
    by_test true rest =
        order_with c (passing_controls p (suc place) controls)
        (chosen_after c p (suc place) controls (come_after c controls order)) rest
    by_test false rest = rest

chosen_same : (p q : ℕ → Bool) (place : ℕ) (controls : List Ctl) → ((n : ℕ) → place ≤ n → q n ≡ p n)
    → passing_controls q place controls ≡ passing_controls p place controls
chosen_same p q place [] same = refl
chosen_same p q place (c ∷ controls) same =
    ap (λ t. cond t (c ∷ passing_controls q (suc place) controls) (passing_controls q (suc place) controls)) (same place (omega arith)) ∙
    ap (λ v. cond (p place) (c ∷ v) v) (chosen_same p q (suc place) controls (λ n least. same n (omega (arith, least))))

-- Test `q` is test `p` with `place` added. The controls that `q` selects are those that `p` selects, and the control at `place`.
pub chosen_set : (p q : ℕ → Bool) (first i place : ℕ) (controls : List Ctl) (c : Ctl)
    → IsInControlOrder controls → place ≡ first + i → ((n : ℕ) → q n ≡ (n == place || p n))
    → slice_get controls i ≡ Some c
    → passing_controls q first controls ≡ inserted c (passing_controls p first controls)
chosen_set p q first i place [] c order at more e = cc e
chosen_set p q first zero place (d ∷ controls) c order at more e =
    ap
    (λ t. cond t (d ∷ passing_controls q (suc first) controls)
    (passing_controls q (suc first) controls)) here ∙ ap (λ v. d ∷ v) later ∙ by_test (p first)
    ∙ ap (λ v. inserted v (cond (p first) (d ∷ rest) rest)) same
  where
    rest : List Ctl
    rest = passing_controls p (suc first) controls

    same : d ≡ c
    same = cc e

    here : q first ≡ true
    here = more first ∙ or_left (first == place) (p first) (eq-eqb first place (omega (arith, at)))

    later : passing_controls q (suc first) controls ≡ rest
    later =
        chosen_same p q (suc first) controls
        (λ n least. more n
        ∙ ap (λ t. t || p n) (ne_eqb n place (λ one. omega (arith, at, one, least))))

    by_test : (t : Bool) → d ∷ rest ≡ inserted d (cond t (d ∷ rest) rest)
    by_test true = sym (insert_front d rest)
    by_test false = sym (insert_before d rest (chosen_after d p (suc first) controls (come_after d controls order)))
chosen_set p q first (suc i) place (d ∷ controls) c order at more e =
    ap
    (λ t. cond t (d ∷ passing_controls q (suc first) controls)
    (passing_controls q (suc first) controls)) here
    ∙ by_test (p first)
    (chosen_set p q (suc first) i place controls c (order_rest d controls order)
    (omega (arith, at)) more e)
  where
    before : precedes d c ≡ true
    before =
        sym (ap (precedes d) (get_or_from_slice_get controls i c c e))
        ∙ come_after d controls order i c (slice_get_within controls i c e)

    here : q first ≡ p first
    here = more first ∙ ap (λ t. t || p first) (ne_eqb first place (λ one. omega (arith, at, one)))

    by_test : (t : Bool) → passing_controls q (suc first) controls ≡ inserted c (passing_controls p (suc first) controls) →
        cond t (d ∷ passing_controls q (suc first) controls)
        (passing_controls q (suc first) controls)
        ≡ inserted c
        (cond t (d ∷ passing_controls p (suc first) controls)
        (passing_controls p (suc first) controls))
    by_test true rest = ap (λ v. d ∷ v) rest ∙ sym (insert_behind c d (passing_controls p (suc first) controls) before)
    by_test false rest = rest

pub chosen_holds : (p : ℕ → Bool) (first i place : ℕ) (controls : List Ctl) (c : Ctl)
    → IsInControlOrder controls → place ≡ first + i → slice_get controls i ≡ Some c
    → holds (passing_controls p first controls) c ≡ p place
chosen_holds p first i place [] c order at e = cc e
chosen_holds p first zero place (d ∷ controls) c order at e =
    sym (ap (holds (cond (p first) (d ∷ rest) rest)) same) ∙ by_test (p first)
    ∙ ap p (omega (arith, at))
  where
    rest : List Ctl
    rest = passing_controls p (suc first) controls

    same : d ≡ c
    same = cc e

    by_test : (t : Bool) → holds (cond t (d ∷ rest) rest) d ≡ t
    by_test true = or_left (same_ctl d d) (holds rest d) (same_refl d)
    by_test false = none_holds d rest (chosen_after d p (suc first) controls (come_after d controls order))
chosen_holds p first (suc i) place (d ∷ controls) c order at e =
    by_test (p first)
    ∙ chosen_holds p (suc first) i place controls c (order_rest d controls order)
    (omega (arith, at)) e
  where
    before : precedes d c ≡ true
    before =
        sym (ap (precedes d) (get_or_from_slice_get controls i c c e))
        ∙ come_after d controls order i c (slice_get_within controls i c e)

    by_test : (t : Bool)
        → holds
        (cond t (d ∷ passing_controls p (suc first) controls)
        (passing_controls p (suc first) controls)) c
        ≡ holds (passing_controls p (suc first) controls) c
    by_test true = ap (λ t. t || holds (passing_controls p (suc first) controls) c) (after_is d c before).2
    by_test false = refl

pub chosen_among : (p : ℕ → Bool) (place : ℕ) (controls : List Ctl) (c : Ctl)
    → holds (passing_controls p place controls) c ≡ true → holds controls c ≡ true
chosen_among p place [] c h = h
chosen_among p place (d ∷ controls) c h = by_test (p place) (chosen_among p (suc place) controls c) h
  where
    rest : List Ctl
    rest = passing_controls p (suc place) controls

    by_part : (holds rest c ≡ true → holds controls c ≡ true)
        → (same_ctl c d ≡ true) ⊎ (holds rest c ≡ true) → (same_ctl c d || holds controls c) ≡ true
    by_part more (inl e) = or_left (same_ctl c d) (holds controls c) e
    by_part more (inr e) = or_right (same_ctl c d) (holds controls c) (more e)

    by_test : (t : Bool) → (holds rest c ≡ true → holds controls c ≡ true)
        → holds (cond t (d ∷ rest) rest) c ≡ true → (same_ctl c d || holds controls c) ≡ true
    by_test true more k = by_part more (or_cases (same_ctl c d) (holds rest c) k)
    by_test false more k = or_right (same_ctl c d) (holds controls c) (more k)

skip_some : (p : ℕ → Bool) (place next k : ℕ) (controls : List Ctl) → next ≡ place + k
    → ((n : ℕ) → place ≤ n → n < next → p n ≡ false)
    → passing_controls p place controls ≡ passing_controls p next (drop k controls)
skip_some p place next zero controls e none = ap (λ m. passing_controls p m controls) (omega (arith, e))
skip_some p place next (suc k) [] e none = refl
skip_some p place next (suc k) (c ∷ controls) e none =
    ap
    (λ t. cond t (c ∷ passing_controls p (suc place) controls)
    (passing_controls p (suc place) controls)) (none place (omega arith) (omega (arith, e))) ∙
    skip_some p (suc place) next k controls (omega (arith, e)) (λ n least less. none n (omega (arith, least)) less)

pub chosen_skip : (p : ℕ → Bool) (controls : List Ctl) (place next : ℕ) → place ≤ next
    → ((n : ℕ) → place ≤ n → n < next → p n ≡ false)
    → passing_controls p place (drop place controls) ≡ passing_controls p next (drop next controls)
chosen_skip p controls place next least none =
    let far : place + (next - place) ≡ next = omega (arith, least) in
    skip_some p place next (next - place) (drop place controls) (sym far) none
    ∙ ap (passing_controls p next)
    (drop-drop (next - place) place controls ∙ ap (λ m. drop m controls) far)

pub chosen_next : (p : ℕ → Bool) (controls : List Ctl) (place next : ℕ) (d : Ctl)
    → place < length controls → p place ≡ true → place + 1 ≤ next
    → ((n : ℕ) → place + 1 ≤ n → n < next → p n ≡ false) →
    passing_controls p place (drop place controls) ≡ get_or controls place d ∷ passing_controls p next (drop next controls)
chosen_next p controls place next d within passes least none =
    let c : Ctl = get_or controls place d in
    let rest : List Ctl = passing_controls p (suc place) (drop (suc place) controls) in
    ap (passing_controls p place) (drop-cons controls place d within) ∙ ap (λ t. cond t (c ∷ rest) rest) passes ∙
    ap (λ v. c ∷ v) (chosen_skip p controls (suc place) next (omega (arith, least)) (λ n low less. none n (omega (arith, low)) less))
