-- A single fault of a board is a nonempty observable fault set.
use Rattle.std.proofs.Common.{◌≡◌, ◌≢◌, ◌⊎◌, inl, inr, ℕ, ◌<◌, ◌==◌, Bool, true, false, cond, ◌&&◌, ◌||◌, Option, Some, None, refl, sym, ◌∙◌, ap, subst, arith}
use Rattle.std.proofs.lemmas.Bool.{and_parts, or_cases, eqb-true, eq-eqb}
use Rattle.std.proofs.lemmas.Option.{cond_some}
use Rattle.board_defs.specs.declared.board.PinRef.{PinRef}
use Rattle.board_defs.specs.declared.board.RawBoard.{RawBoard}
use Rattle.board_defs.specs.declared.fault.Kind.{Kind}
use Rattle.board_defs.specs.declared.fault.Kind.TheVariants.{And, Or, First, Second}
use Rattle.board_defs.specs.declared.fault.Single.{Single}
use Rattle.board_defs.specs.declared.fault.Single.TheVariants.{StuckNet, OpenPin, Short}
use Rattle.board_defs.specs.Coverage.{IsCovered, ArePaired, IsTestedDriver, IsTestedReceiver}
use Rattle.board_defs.specs.Faults.{IsSingle}
use Rattle.tap_defs.specs.board.FaultSet.{Dominant, IsObservable, IsNonempty, some_stuck, some_open, some_short}
use Rattle.tap_defs.specs.board.Explaining.{set_of, short_kind}
use Rattle.tap_defs.specs.board.RowCaptures.{NoOpenShorted}

nothing : {A P : Type 0} (x : A) → None ≡ Some x → P
nothing x e = cc e

stuck_observable : (board : RawBoard) (net : ℕ) (value : Bool) → IsCovered board net → IsObservable board (set_of (StuckNet net value))
stuck_observable board net value covered = record {
  is_set = record {
    disjoint = λ n v e. refl;
    several = λ n k e. nothing k e;
    covered = λ n k e. nothing k e;
    dominant = λ n k d e f. nothing k e;
  };
  stuck = λ n v e. subst (λ (m : ℕ). IsCovered board m) (sym (eqb-true n net (cond_some (n == net) value v e).0)) covered;
  opened = λ n i v e. nothing v e;
  shorts = λ n k e. nothing k e;
}

open_observable : (board : RawBoard) (pin : PinRef) (value : Bool) →
    IsTestedDriver board pin.net pin.place ⊎ IsTestedReceiver board pin.net pin.place →
    IsObservable board (set_of (OpenPin pin value))
open_observable board pin value tested = record {
  is_set = record {
    disjoint = λ n v e. refl;
    several = λ n k e. nothing k e;
    covered = λ n k e. nothing k e;
    dominant = λ n k d e f. nothing k e;
  };
  stuck = λ n v e. nothing v e;
  opened = λ n i v e.
      let both = and_parts (n == pin.net) (i == pin.place) (cond_some ((n == pin.net) && (i == pin.place)) value v e).0 in
      subst (λ (m : ℕ). IsTestedDriver board m i ⊎ IsTestedReceiver board m i) (sym (eqb-true n pin.net both.0))
      (subst (λ (j : ℕ). IsTestedDriver board pin.net j ⊎ IsTestedReceiver board pin.net j) (sym (eqb-true i pin.place both.1)) tested);
  shorts = λ n k e. nothing k e;
}

-- the fault set of a short of two paired nets
module _ (board : RawBoard) (a b : ℕ) (kind : Kind) (less : a < b) (paired : ArePaired board a b) where
  abbrev is_member : ℕ → Bool
  is_member n = (n == a) || (n == b)

  abbrev short_of : ℕ → Option ℕ
  short_of n = (set_of (Short a b kind)).short n

  first_in : short_of a ≡ Some 0
  first_in = ap (λ (t : Bool). cond (t || (a == b)) (Some 0) None) (eq-eqb a a refl)

  second_in : short_of b ≡ Some 0
  second_in = ap (λ (t : Bool). cond t (Some 0) None) (or_true (b == a) (b == b) (eq-eqb b b refl))
    where
      or_true : (x y : Bool) → y ≡ true → (x || y) ≡ true
      or_true true y h = refl
      or_true false y h = h

  which : (n : ℕ) → is_member n ≡ true → (n ≡ a) ⊎ (n ≡ b)
  which n e = elim (or_cases (n == a) (n == b) e) [ inl h ↦ inl (eqb-true n a h) | inr h ↦ inr (eqb-true n b h) ]

  by_member : (P : ℕ → Type 0) → P a → P b → (n : ℕ) (k : ℕ) → short_of n ≡ Some k → P n
  by_member P first second n k e =
      elim (which n (cond_some (is_member n) 0 k e).0) [ inl h ↦ subst P (sym h) first | inr h ↦ subst P (sym h) second ]

  number : (n k : ℕ) → short_of n ≡ Some k → ◌≡◌ {A = ℕ} 0 k
  number n k e = (cond_some (is_member n) 0 k e).1

  at_number : (n m k : ℕ) → short_of n ≡ Some k → short_of m ≡ Some 0 → short_of m ≡ Some k
  at_number n m k e h = h ∙ ap (λ (j : ℕ). Some j) (number n k e)

  dominant_in : (d : ℕ) (k : Kind) → short_kind a b k ≡ Dominant d → short_of d ≡ Some 0
  dominant_in d And e = cc e
  dominant_in d Or e = cc e
  dominant_in d First e = let z : a ≡ d = cc e in subst (λ (m : ℕ). short_of m ≡ Some 0) z first_in
  dominant_in d Second e = let z : b ≡ d = cc e in subst (λ (m : ℕ). short_of m ≡ Some 0) z second_in

  abbrev Other : ℕ → Type 0
  Other n = (m : ℕ) × (m ≢ n) × (short_of m ≡ Some 0)

  pub short_observable : IsObservable board (set_of (Short a b kind))
  short_observable = record {
    is_set = record {
      disjoint = λ n v e. nothing v e;
      several = λ n k e.
          let other : Other n = by_member Other (b, (λ h. omega (arith, less, h)), second_in)
          (a, (λ h. omega (arith, less, h)), first_in) n k e in
          (other.0, other.1, at_number n other.0 k e other.2);
      covered = λ n k e.
          by_member (λ m. IsCovered board m) (paired.1.0, paired.1.1, paired.1.2.0) (paired.1.0, paired.1.1, paired.1.2.1) n k e;
      dominant = λ n k d e f. at_number n d k e (dominant_in d kind f);
    };
    stuck = λ n v e. nothing v e;
    opened = λ n i v e. nothing v e;
    shorts = λ n k e. (a, b, at_number n a k e first_in, at_number n b k e second_in, paired);
  }

pub single_observable : (board : RawBoard) (single : Single) → IsSingle board single → IsObservable board (set_of single)
single_observable board (StuckNet net value) h = stuck_observable board net value h
single_observable board (OpenPin pin value) h = open_observable board pin value h
single_observable board (Short a b kind) h = short_observable board a b kind h.0 h.1

pub single_nonempty : (single : Single) → IsNonempty (set_of single)
single_nonempty (StuckNet net value) = some_stuck net value (ap (λ (t : Bool). cond t (Some value) None) (eq-eqb net net refl))
single_nonempty (OpenPin pin value) =
    some_open pin.net pin.place value
    (ap (λ (t : Bool). cond (t && (pin.place == pin.place)) (Some value) None) (eq-eqb pin.net pin.net refl)
    ∙ ap (λ (t : Bool). cond t (Some value) None) (eq-eqb pin.place pin.place refl))
single_nonempty (Short a b kind) = some_short a 0 (ap (λ (t : Bool). cond (t || (a == b)) (Some 0) None) (eq-eqb a a refl))

pub single_no_open_shorted : (single : Single) → NoOpenShorted (set_of single)
single_no_open_shorted (StuckNet net value) n k i e = refl
single_no_open_shorted (OpenPin pin value) n k i e = nothing k e
single_no_open_shorted (Short a b kind) n k i e = refl
