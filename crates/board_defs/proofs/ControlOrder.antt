-- Lists of controls in control order.
use Rattle.std.proofs.Common.{◌≡◌, ℕ, zero, suc, ◌+◌, ◌<◌, ◌≤◌, ◌==◌, Bool, true, false, ◌||◌, List, [], ◌∷◌, length, get_or, Option, Some, None, refl, sym, ◌∙◌, ap, subst, arith, cond, one-add, ◌⊎◌, inl, inr}
use Rattle.std.specs.Prelude.{slice_get, insert, All, IsTrue}
use Rattle.std.specs.List.{prefix_len}
use Rattle.std.specs.List.Sorted.{IsPartitionedBy, IsPartitionPoint}
use Rattle.std.proofs.lemmas.Bool.Decides.{nat_tests}
use Rattle.std.proofs.lemmas.Bool.{both_ways, eqb-true, eq-eqb, and_parts, and_from, or_parts, cases_eq}
use Rattle.std.proofs.Math.Bool.{or-false}
use Rattle.std.proofs.lemmas.List.Elements.{All-head, All-tail, All-cons, All-nil}
use Rattle.board_defs.specs.declared.board.Ctl.{Ctl}
use Rattle.board_defs.specs.Settings.{same_ctl, precedes, holds, inserted, IsInControlOrder}

pub same_equal : (a b : Ctl) → same_ctl a b ≡ true → a ≡ b
same_equal a b h =
    let p : a.part ≡ b.part = eqb-true a.part b.part ((and_parts (a.part == b.part) (a.cell == b.cell) h).0) in
    let c : a.cell ≡ b.cell = eqb-true a.cell b.cell ((and_parts (a.part == b.part) (a.cell == b.cell) h).1) in
    let P : ℕ → Type 0 = λ n. a ≡ record { part = n; cell = a.cell } in
    let Q : ℕ → Type 0 = λ n. a ≡ record { part = b.part; cell = n } in
    subst Q c (subst P p refl)

pub same_refl : (c : Ctl) → same_ctl c c ≡ true
same_refl c = and_from (c.part == c.part) (c.cell == c.cell) (eq-eqb c.part c.part refl) (eq-eqb c.cell c.cell refl)

precedes_not_same : (a b : Ctl) → precedes a b ≡ true → same_ctl b a ≡ false
precedes_not_same a b h = grind (arith, nat_tests)

pub precedes_trans : (a b c : Ctl) → precedes a b ≡ true → precedes b c ≡ true → precedes a c ≡ true
precedes_trans a b c h k = grind (arith, nat_tests)

precedes_or : (a b : Ctl) → precedes a b ≡ false → same_ctl b a ≡ false → precedes b a ≡ true
precedes_or a b h k = grind (arith, nat_tests)

order_head : (d : Ctl) (list : List Ctl) → IsInControlOrder (d ∷ list) → All (λ e. IsTrue (precedes d e)) list
order_head d list h k e less = h 0 (suc k) e (omega arith) (omega arith)

order_tail : (d : Ctl) (list : List Ctl) → IsInControlOrder (d ∷ list) → IsInControlOrder list
order_tail d list h i j e less within = h (suc i) (suc j) e (omega arith) (omega arith)

order_cons : (d : Ctl) (list : List Ctl) → All (λ e. IsTrue (precedes d e)) list → IsInControlOrder list → IsInControlOrder (d ∷ list)
order_cons d list before rest i zero e less within = absurd (omega arith)
order_cons d list before rest zero (suc j) e less within = before j e (omega arith)
order_cons d list before rest (suc i) (suc j) e less within = rest i j e (omega arith) (omega arith)

none_after : (c d : Ctl) (list : List Ctl) → precedes d c ≡ false → All (λ e. IsTrue (precedes d e)) list → holds list c ≡ false
none_after c d [] not_before after = refl
none_after c d (e ∷ list) not_before after =
    by_same
    (none_after c d list not_before (All-tail (λ (v : Ctl). IsTrue (precedes d v)) e list after))
    (same_ctl c e) refl
  where
    by_same : holds list c ≡ false → (t : Bool) → same_ctl c e ≡ t → (t || holds list c) ≡ false
    by_same rest true s =
        let head : precedes d e ≡ true = All-head (λ (v : Ctl). IsTrue (precedes d v)) e list after in
        absurd (both_ways (precedes d c) not_before (ap (precedes d) (same_equal c e s) ∙ head))
    by_same rest false s = rest

-- the place of a control in a list in control order: the number of controls of the list that precede it
abbrev pub place : List Ctl → Ctl → ℕ
place list c = prefix_len (λ d. precedes d c) list

get_more : (d : Ctl) (list : List Ctl) (n : ℕ) → slice_get (d ∷ list) (1 + n) ≡ slice_get list n
get_more d list n = ap (slice_get (d ∷ list)) (one-add n)

insert_more : (d c : Ctl) (list : List Ctl) (n : ℕ) → insert (d ∷ list) (1 + n) c ≡ d ∷ insert list n c
insert_more d c list n = ap (λ k. insert (d ∷ list) k c) (one-add n)

is_there : Ctl → Option Ctl → Bool
is_there c None = false
is_there c (Some d) = same_ctl c d

holds_at_place : (c : Ctl) (list : List Ctl) → IsInControlOrder list → holds list c ≡ is_there c (slice_get list (place list c))
unfolding is_there
holds_at_place c [] h = refl
holds_at_place c (d ∷ list) h = by_before (precedes d c) refl (holds_at_place c list (order_tail d list h))
  where
    by_before : (t : Bool) → precedes d c ≡ t
        → holds list c ≡ is_there c (slice_get list (place list c))
        → (same_ctl c d || holds list c)
        ≡ is_there c (slice_get (d ∷ list) (cond t (1 + place list c) 0))
    by_before true b rest =
        ap (λ t. t || holds list c) (precedes_not_same d c b) ∙ rest
        ∙ ap (is_there c) (sym (get_more d list (place list c)))
    by_before false b rest = ap (λ t. same_ctl c d || t) (none_after c d list b (order_head d list h)) ∙ or-false (same_ctl c d)

pub holds_some : (c d : Ctl) (list : List Ctl) → IsInControlOrder list
    → slice_get list (place list c) ≡ Some d → holds list c ≡ same_ctl c d
unfolding is_there
holds_some c d list h e = holds_at_place c list h ∙ ap (is_there c) e

pub holds_none : (c : Ctl) (list : List Ctl) → IsInControlOrder list → slice_get list (place list c) ≡ None → holds list c ≡ false
unfolding is_there
holds_none c list h e = holds_at_place c list h ∙ ap (is_there c) e

pub inserted_new : (c : Ctl) (list : List Ctl) → IsInControlOrder list → holds list c ≡ false
    → inserted c list ≡ insert list (place list c) c
inserted_new c [] h out = refl
inserted_new c (d ∷ list) h out = by_before (precedes d c) refl (inserted_new c list (order_tail d list h) (parts.1))
  where
    parts : (same_ctl c d ≡ false) × (holds list c ≡ false)
    parts = or_parts (same_ctl c d) (holds list c) out

    by_before : (t : Bool) → precedes d c ≡ t → inserted c list ≡ insert list (place list c) c
        → cond t (d ∷ inserted c list) (cond (same_ctl c d) (d ∷ list) (c ∷ d ∷ list))
        ≡ insert (d ∷ list) (cond t (1 + place list c) 0) c
    by_before true b rest = ap (λ v. d ∷ v) rest ∙ sym (insert_more d c list (place list c))
    by_before false b rest = ap (λ t. cond t (d ∷ list) (c ∷ d ∷ list)) parts.0

pub inserted_old : (c : Ctl) (list : List Ctl) → IsInControlOrder list → holds list c ≡ true → inserted c list ≡ list
inserted_old c [] h there = cc there
inserted_old c (d ∷ list) h there = by_before (inserted_old c list (order_tail d list h)) (precedes d c) refl (same_ctl c d) refl
  where
    by_before : (holds list c ≡ true → inserted c list ≡ list) → (t : Bool) → precedes d c ≡ t
        → (s : Bool) → same_ctl c d ≡ s
        → cond t (d ∷ inserted c list) (cond s (d ∷ list) (c ∷ d ∷ list)) ≡ d ∷ list
    by_before rest true b s e = ap (λ v. d ∷ v) (rest (sym (ap (λ t. t || holds list c) (precedes_not_same d c b)) ∙ there))
    by_before rest false b true e = refl
    by_before rest false b false e =
        absurd
        (both_ways (holds list c) (none_after c d list b (order_head d list h))
        (sym (ap (λ t. t || holds list c) e) ∙ there))

inserted_all : (P : Ctl → Type 0) (c : Ctl) (list : List Ctl) → P c → All P list → All P (inserted c list)
inserted_all P c [] here all = All-cons P c [] here all
inserted_all P c (d ∷ list) here all = by_before (inserted_all P c list here (All-tail P d list all)) (precedes d c) (same_ctl c d)
  where
    by_before : All P (inserted c list) → (t s : Bool) → All P (cond t (d ∷ inserted c list) (cond s (d ∷ list) (c ∷ d ∷ list)))
    by_before rest true s = All-cons P d (inserted c list) (All-head P d list all) rest
    by_before rest false true = all
    by_before rest false false = All-cons P c (d ∷ list) here all

pub order_inserted : (c : Ctl) (list : List Ctl) → IsInControlOrder list → IsInControlOrder (inserted c list)
order_inserted c [] h = order_cons c [] (All-nil (λ (e : Ctl). IsTrue (precedes c e))) h
order_inserted c (d ∷ list) h = by_before (order_inserted c list (order_tail d list h)) (precedes d c) refl (same_ctl c d) refl
  where
    by_before : IsInControlOrder (inserted c list) → (t : Bool) → precedes d c ≡ t → (s : Bool)
        → same_ctl c d ≡ s
        → IsInControlOrder (cond t (d ∷ inserted c list) (cond s (d ∷ list) (c ∷ d ∷ list)))
    by_before rest true b s e =
        order_cons d (inserted c list)
        (inserted_all (λ (v : Ctl). IsTrue (precedes d v)) c list b (order_head d list h)) rest
    by_before rest false b true e = h
    by_before rest false b false e =
        let before : precedes c d ≡ true = precedes_or d c b e in
        order_cons c (d ∷ list)
        (All-cons (λ (v : Ctl). IsTrue (precedes c v)) d list before
        (λ k v less. precedes_trans c d (get_or list k v) before
        (order_head d list h k v less))) h

pub order_parts : (c : Ctl) (list : List Ctl) → IsInControlOrder list → IsPartitionedBy (λ d. precedes d c) list
order_parts c list h i j e le within before = by_cases (cases_eq i j)
  where
    by_cases : (i ≡ j) ⊎ (i ≡ j → ⊥) → precedes (get_or list i e) c ≡ true
    by_cases (inl same) = ap (λ k. precedes (get_or list k e) c) same ∙ before
    by_cases (inr other) =
        let less : i < j = omega arith in
        precedes_trans (get_or list i e) (get_or list j e) c (h i j e less within) before

pub point_place : (c : Ctl) (list : List Ctl) (i : ℕ) → i ≤ length list
    → IsPartitionPoint (λ d. precedes d c ≡ true) (λ d. precedes d c ≡ false) list i
    → i ≡ place list c
point_place c [] i le h = omega arith
point_place c (d ∷ list) zero le h = sym (ap (λ t. cond t (1 + place list c) 0) (h.1 0 d (omega arith) (omega arith)))
point_place c (d ∷ list) (suc i) le h =
    let rest : i
    ≡ place list c = point_place c list i (omega arith) (
      λ k e low high. h.0 (suc k) e (omega arith) (omega arith),
      λ k e low high. h.1 (suc k) e (omega arith) (omega arith),
    ) in
    let up : suc i ≡ 1 + place list c = omega (arith, rest) in
    up ∙ sym (ap (λ t. cond t (1 + place list c) 0) (h.0 0 d (omega arith) (omega arith)))

pub same_order : (list new : List Ctl) → new ≡ list → IsInControlOrder list → IsInControlOrder new
same_order list new e h = let P : List Ctl → Type 0 = λ v. IsInControlOrder v in subst P (sym e) h

pub added : (c : Ctl) (list new : List Ctl) (k : ℕ) → IsInControlOrder list → holds list c ≡ false
    → k ≡ place list c → new ≡ insert list k c → new ≡ inserted c list
added c list new k h out at e = e ∙ ap (λ n. insert list n c) at ∙ sym (inserted_new c list h out)

pub added_order : (c : Ctl) (list new : List Ctl) → new ≡ inserted c list → IsInControlOrder list → IsInControlOrder new
added_order c list new e h = same_order (inserted c list) new e (order_inserted c list h)
