-- Lemmas about the list `those` of the items of `xs` for which P holds, in order.
use Rattle.std.proofs.Common.{◌≡◌, ◌⊎◌, inl, inr, Bool, true, false, cond, List, [], ◌∷◌, ◌++◌, refl, sym, ap, ◌∙◌, subst}
use Rattle.std.specs.Prelude.{filter}
use Rattle.board_defs.proofs.Members.{Has}
use Rattle.board_defs.proofs.Ordered.{InOrder}
use Rattle.fault_sim.specs.Diagnosis.{Picks}

module _ {X : Type 0} (P : X → Type 0) where
  pub those_append : (xs ys a b : List X) → Picks P xs a → Picks P ys b → Picks P (xs ++ ys) (a ++ b)
  those_append [] ys a b none second = subst (λ (l : List X). Picks P ys (l ++ b)) (sym none) second
  those_append (x ∷ xs) ys a b (inl (rest, holds, is, first)) second =
      inl (rest ++ b, holds, ap (λ (l : List X). l ++ b) is, those_append xs ys rest b first second)
  those_append (x ∷ xs) ys a b (inr (not, first)) second = inr (not, those_append xs ys a b first second)

  pub those_hold : (xs those : List X) (y : X) → Picks P xs those → Has those y → Has xs y × P y
  those_hold [] those y none has = absurd (subst (λ (l : List X). Has l y) none has)
  those_hold (x ∷ xs) those y (inl (rest, holds, is, more)) has =
      by_place (those_hold xs rest y more) (subst (λ (l : List X). Has l y) is has)
    where
      by_place : (Has rest y → Has xs y × P y) → (x ≡ y) ⊎ Has rest y → ((x ≡ y) ⊎ Has xs y) × P y
      by_place below (inl same) = (inl same, subst P same holds)
      by_place below (inr later) = let r = below later in (inr r.0, r.1)
  those_hold (x ∷ xs) those y (inr (not, more)) has = let r = those_hold xs those y more has in (inr r.0, r.1)

  pub hold_those : (xs those : List X) (y : X) → Picks P xs those → Has xs y → P y → Has those y
  hold_those [] those y none has holds = absurd has
  hold_those (x ∷ xs) those y (inl (rest, first, is, more)) has holds =
      subst (λ (l : List X). Has l y) (sym is)
      (by_place (λ later. hold_those xs rest y more later holds) has)
    where
      by_place : (Has xs y → Has rest y) → (x ≡ y) ⊎ Has xs y → (x ≡ y) ⊎ Has rest y
      by_place below (inl same) = inl same
      by_place below (inr later) = inr (below later)
  hold_those (x ∷ xs) those y (inr (not, more)) has holds = by_place (λ later. hold_those xs those y more later holds) has
    where
      by_place : (Has xs y → Has those y) → (x ≡ y) ⊎ Has xs y → Has those y
      by_place below (inl same) = absurd (not (subst P (sym same) holds))
      by_place below (inr later) = below later

  pub those_one : (xs a b : List X) → Picks P xs a → Picks P xs b → a ≡ b
  those_one [] a b first second = first ∙ sym second
  those_one (x ∷ xs) a b (inl (rest, holds, is, more)) (inl (rest', holds', is', more')) =
      is ∙ (ap (λ (l : List X). x ∷ l) (those_one xs rest rest' more more') ∙ sym is')
  those_one (x ∷ xs) a b (inl (rest, holds, is, more)) (inr (not, more')) = absurd (not holds)
  those_one (x ∷ xs) a b (inr (not, more)) (inl (rest, holds, is, more')) = absurd (not holds)
  those_one (x ∷ xs) a b (inr (not, more)) (inr (not', more')) = those_one xs a b more more'

  pub those_order : (R : X → X → Type 0) (xs those : List X) → InOrder R xs → Picks P xs those → InOrder R those
  those_order R [] those order none = subst (λ (l : List X). InOrder R l) (sym none) tt
  those_order R (x ∷ xs) those order (inl (rest, holds, is, more)) =
      subst (λ (l : List X). InOrder R l) (sym is) (
        (λ y has. order.0 y (those_hold xs rest y more has).0),
        those_order R xs rest order.1 more,
      )
  those_order R (x ∷ xs) those order (inr (not, more)) = those_order R xs those order.1 more

  pub those_none : (xs those : List X) → ((x : X) → Has xs x → P x → ⊥) → Picks P xs those → those ≡ []
  those_none [] those not none = none
  those_none (x ∷ xs) those not (inl (rest, holds, is, more)) = absurd (not x (inl refl) holds)
  those_none (x ∷ xs) those not (inr (not_first, more)) = those_none xs those (λ y has. not y (inr has)) more

  pub those_filter : (test : X → Bool) (xs those : List X)
      → ((x : X) → Has xs x → test x ≡ true → P x) → ((x : X) → Has xs x → P x → test x ≡ true)
      → Picks P xs those → filter test xs ≡ those
  those_filter test [] those only all none = sym none
  those_filter test (x ∷ xs) those only all (inl (rest, holds, is, more)) =
      ap (λ (b : Bool). cond b (x ∷ filter test xs) (filter test xs)) (all x (inl refl) holds)
      ∙ (ap (λ (l : List X). x ∷ l) (those_filter test xs rest (λ y has. only y (inr has)) (λ y has. all y (inr has)) more) ∙ sym is)
  those_filter test (x ∷ xs) those only all (inr (not, more)) =
      by_test (test x) refl
      (those_filter test xs those (λ y has. only y (inr has)) (λ y has. all y (inr has)) more)
    where
      by_test : (b : Bool) → test x ≡ b → filter test xs ≡ those → cond b (x ∷ filter test xs) (filter test xs) ≡ those
      by_test true e below = absurd (not (only x (inl refl) e))
      by_test false e below = below

  pub filter_those : (test : X → Bool) (xs : List X) → ((x : X) → Has xs x → test x ≡ true → P x)
      → ((x : X) → Has xs x → P x → test x ≡ true) → Picks P xs (filter test xs)
  filter_those test [] only all = refl
  filter_those test (x ∷ xs) only all = by_test (test x) refl (filter_those test xs (λ y has. only y (inr has)) (λ y has. all y (inr has)))
    where
      by_test : (b : Bool) → test x ≡ b → Picks P xs (filter test xs) → Picks P (x ∷ xs) (cond b (x ∷ filter test xs) (filter test xs))
      by_test true e more = inl (filter test xs, only x (inl refl) e, refl, more)
      by_test false e more = inr ((λ holds. let bad : true ≡ false = sym (all x (inl refl) holds) ∙ e in cc bad), more)
