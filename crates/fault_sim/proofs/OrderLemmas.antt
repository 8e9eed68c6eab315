-- Lemmas about lists of places in ascending order. If such a list has the place of every fault that satisfies a test, filtering the faults
-- at the listed places by the test gives all faults that satisfy it.
use Rattle.std.proofs.Common.{◌≡◌, ◌⊎◌, inl, inr, ℕ, zero, suc, ◌+◌, ◌-◌, ◌<◌, ◌≤◌, Bool, true, false, cond, List, [], ◌∷◌, ◌++◌, length, Option, Some, None, refl, sym, ap, ◌∙◌, subst, arith, length-append}
use Rattle.std.specs.Prelude.{slice_get, filter, filter_map, option_and_then}
use Rattle.std.specs.List.{flat_map, cons_option}
use Rattle.std.proofs.lemmas.Bool.{cases_eq}
use Rattle.std.proofs.lemmas.List.{length-map}
use Rattle.board_defs.specs.declared.board.RawBoard.{RawBoard}
use Rattle.board_defs.specs.declared.fault.Single.{Single}
use Rattle.board_defs.specs.BoardRules.{IsBoard}
use Rattle.board_defs.specs.Decided.{are_paired}
use Rattle.board_defs.specs.Faults.{Numbered, covered_nets, tested_pins, stuck_faults, open_faults, short_faults, singles, IsSingle}
use Rattle.board_defs.specs.Passes.{pairs_within}
use Rattle.board_defs.proofs.Members.{Has, has_contains, contains_has}
use Rattle.board_defs.proofs.Ordered.{InOrder, pairs_order}
use Rattle.board_defs.proofs.SingleFaults.{single_is}
use Rattle.fault_sim.specs.Places.{as_places, pair_places, stuck_places, open_places, short_places, places_of, fault_at}
use Rattle.fault_sim.specs.Starts.{pairs_before}
use Rattle.fault_sim.specs.Laws.{PlacesCounted, SuspectsSuffice}
use Rattle.fault_sim.proofs.PlaceLemmas.{length-flat, length-pairs, places_are}

pub places_counted : PlacesCounted
places_counted board lists universe =
    let nets : length lists.nets
    ≡ length (covered_nets board) = ap (λ (l : List ℕ). length l) universe.nets
    ∙ length-map (covered_nets board) (λ (net : Numbered). net.0) in
    omega (
      arith,
      length-append (stuck_places board) (open_places board ++ short_places board),
      length-append (open_places board) (short_places board),
      length-map (flat_map (λ (net : Numbered). stuck_faults net.0) (covered_nets board)) (λ fault. Some fault),
      length-flat (λ (net : Numbered). stuck_faults net.0) 2 (λ net. refl) (covered_nets board),
      length-map (flat_map open_faults (tested_pins board)) (λ fault. Some fault),
      length-flat open_faults 2 (λ pin. refl) (tested_pins board),
      length-flat (pair_places board) 4 four (pairs_within (covered_nets board)),
      length-pairs (covered_nets board),
      ap (λ l. length l) universe.pins,
      nets,
      ap (λ (n : ℕ). pairs_before n n) nets,
    )
  where
    four : (pair : Numbered × Numbered) → length (pair_places board pair) ≡ 4
    four pair = by_test (are_paired board pair.0.1 pair.1.1)
      where
        by_test : (b : Bool) → length (cond b (as_places (short_faults pair.0.0 pair.1.0)) (None ∷ None ∷ None ∷ None ∷ [])) ≡ 4
        by_test true = refl
        by_test false = refl

pub fault_listed : (places : List (Option Single)) (i : ℕ) (single : Single)
    → slice_get places i ≡ Some (Some single) → Has (filter_map (λ place. place) places) single
fault_listed [] i single e = cc e
fault_listed (None ∷ places) zero single e = let bad : Some None ≡ Some (Some single) = e in cc bad
fault_listed (None ∷ places) (suc i) single e = fault_listed places i single e
fault_listed (Some fault ∷ places) zero single e = let two : Some (Some fault) ≡ Some (Some single) = e in inl (cc two)
fault_listed (Some fault ∷ places) (suc i) single e = inr (fault_listed places i single e)

pub place_single : (board : RawBoard) → IsBoard board → (i : ℕ) (single : Single)
    → slice_get (places_of board) i ≡ Some (Some single) → IsSingle board single
place_single board rules i single e =
    single_is board rules single
    (has_contains (singles board) single
    (subst (λ (l : List Single). Has l single) (places_are board)
    (fault_listed (places_of board) i single e)))

-- the faults at the places `numbers`; `places` are the places from place `first` on
abbrev pub faults_from : List (Option Single) → ℕ → List ℕ → List Single
faults_from places first numbers = filter_map (λ i. option_and_then (λ place. place) (slice_get places (i - first))) numbers

module _ (test : Single → Bool) where
  none_here : (first : ℕ) (numbers : List ℕ) → filter test (faults_from [] first numbers) ≡ []
  none_here first [] = refl
  none_here first (i ∷ numbers) = none_here first numbers

  -- if all numbers are above `first`, one more place in front of the list changes none of the faults
  moved : (place : Option Single) (places : List (Option Single)) (first : ℕ) (numbers : List ℕ)
      → ((i : ℕ) → Has numbers i → first + 1 ≤ i)
      → faults_from (place ∷ places) first numbers ≡ faults_from places (first + 1) numbers
  moved place places first [] above = refl
  moved place places first (i ∷ numbers) above =
      let up : first + 1 ≤ i = above i (inl refl) in
      let at : i - first ≡ suc (i - (first + 1)) = omega (arith, up) in
      ap (λ (k : ℕ). cons_option (option_and_then (λ p. p) (slice_get (place ∷ places) k)) (faults_from (place ∷ places) first numbers)) at
      ∙ ap
      (λ (l : List Single). cons_option
      (option_and_then (λ p. p) (slice_get places (i - (first + 1)))) l)
      (moved place places first numbers (λ j h. above j (inr h)))

  abbrev Complete : List (Option Single) → ℕ → List ℕ → Type 0
  Complete places first numbers =
      (j : ℕ) (single : Single) → slice_get places j ≡ Some (Some single) → test single ≡ true
      → Has numbers (first + j)

  same_passing : (places : List (Option Single)) (first : ℕ) (numbers : List ℕ)
      → InOrder (λ (i j : ℕ). i < j) numbers → ((i : ℕ) → Has numbers i → first ≤ i)
      → Complete places first numbers →
      filter test (filter_map (λ place. place) places) ≡ filter test (faults_from places first numbers)
  same_passing [] first numbers order above complete = sym (none_here first numbers)
  same_passing (place ∷ places) first [] order above complete =
      left_out place refl
      ∙ same_passing places (first + 1) [] order (λ i h. absurd h)
      (λ j single e on. absurd (complete (suc j) single e on))
    where
      left_out : (p : Option Single) → place ≡ p → filter test (filter_map (λ q. q) (p ∷ places)) ≡ filter test (filter_map (λ q. q) places)
      left_out None e = refl
      left_out (Some single) e = by_test (test single) refl
        where
          by_test : (b : Bool) → test single ≡ b
              → cond b (single ∷ filter test (filter_map (λ q. q) places))
              (filter test (filter_map (λ q. q) places))
              ≡ filter test (filter_map (λ q. q) places)
          by_test false q = refl
          by_test true q = absurd (complete 0 single (ap Some e) q)
  same_passing (place ∷ places) first (i ∷ numbers) order above complete =
      by_first (cases_eq i first)
      (λ h. same_passing places (first + 1) numbers order.1
      (λ j has. omega (arith, h, order.0 j has)) (λ j single e on. later h j single e on))
      (λ h. same_passing places (first + 1) (i ∷ numbers) order (λ j has. above_more h j has) (λ j single e on. all_later h j single e on))
    where
      later : i ≡ first → (j : ℕ) (single : Single) → slice_get places j ≡ Some (Some single)
          → test single ≡ true → Has numbers (first + 1 + j)
      later h j single e on = by_place (complete (suc j) single e on)
        where
          next : first + suc j ≡ first + 1 + j
          next = omega arith

          by_place : (i ≡ first + suc j) ⊎ Has numbers (first + suc j) → Has numbers (first + 1 + j)
          by_place (inl same) = absurd (omega (arith, same, h))
          by_place (inr has) = subst (λ (k : ℕ). Has numbers k) next has

      above_more : (i ≡ first → ⊥) → (j : ℕ) → Has (i ∷ numbers) j → first + 1 ≤ j
      above_more ne j (inl same) = by_less (above i (inl refl))
        where
          by_less : first ≤ i → first + 1 ≤ j
          by_less le = omega (arith, lower ne le, same)
            where
              lower : (i ≡ first → ⊥) → first ≤ i → first < i
              lower ne le = grind arith
      above_more ne j (inr has) = omega (arith, above i (inl refl), order.0 j has)

      all_later : (i ≡ first → ⊥) → (j : ℕ) (single : Single)
          → slice_get places j ≡ Some (Some single) → test single ≡ true
          → Has (i ∷ numbers) (first + 1 + j)
      all_later ne j single e on =
          let next : first + suc j ≡ first + 1 + j = omega arith in
          subst (λ (k : ℕ). Has (i ∷ numbers) k) next (complete (suc j) single e on)

      left_out : (i ≡ first → ⊥) → (p : Option Single) → place ≡ p
          → filter test (filter_map (λ q. q) (p ∷ places))
          ≡ filter test (filter_map (λ q. q) places)
      left_out ne None e = refl
      left_out ne (Some single) e = by_test (test single) refl
        where
          by_test : (b : Bool) → test single ≡ b
              → cond b (single ∷ filter test (filter_map (λ q. q) places))
              (filter test (filter_map (λ q. q) places))
              ≡ filter test (filter_map (λ q. q) places)
          by_test false q = refl
          by_test true q = let has = complete 0 single (ap Some e) q in let up = above_more ne (first + 0) has in absurd (omega (arith, up))

      taken : (p : Option Single) (rest : List Single)
          → filter test (filter_map (λ q. q) places) ≡ filter test rest
          → filter test (filter_map (λ q. q) (p ∷ places)) ≡ filter test (cons_option p rest)
      taken None rest e = e
      taken (Some single) rest e = ap (λ (l : List Single). cond (test single) (single ∷ l) l) e

      by_first : (i ≡ first) ⊎ (i ≡ first → ⊥)
          → (i ≡ first
          → filter test (filter_map (λ q. q) places)
          ≡ filter test (faults_from places (first + 1) numbers)) →
          ((i ≡ first → ⊥) → filter test (filter_map (λ q. q) places) ≡ filter test (faults_from places (first + 1) (i ∷ numbers))) →
          filter test (filter_map (λ q. q) (place ∷ places)) ≡ filter test (faults_from (place ∷ places) first (i ∷ numbers))
      by_first (inl h) with_first without =
          let zero_is : 0 ≡ i - first = omega (arith, h) in
          taken place (faults_from places (first + 1) numbers) (with_first h)
          ∙ ap (λ (l : List Single). filter test (cons_option place l))
          (sym (moved place places first numbers (λ j has. omega (arith, h, order.0 j has))))
          ∙ ap
          (λ (k : ℕ). filter test
          (cons_option (option_and_then (λ p. p) (slice_get (place ∷ places) k))
          (faults_from (place ∷ places) first numbers))) zero_is
      by_first (inr ne) with_first without =
          left_out ne place refl ∙ without ne
          ∙ ap (λ (l : List Single). filter test l) (sym (moved place places first (i ∷ numbers) (λ j has. above_more ne j has)))

from_first : (board : RawBoard) (numbers : List ℕ) → faults_from (places_of board) 0 numbers ≡ filter_map (fault_at board) numbers
from_first board [] = refl
from_first board (i ∷ numbers) =
    let same : i - 0 ≡ i = omega arith in
    ap (λ (k : ℕ). cons_option (fault_at board k) (faults_from (places_of board) 0 numbers)) same
    ∙ ap (λ (l : List Single). cons_option (fault_at board i) l) (from_first board numbers)

pub suffice : SuspectsSuffice
suffice board plan lists log suspects rules are test only =
    sym (ap (λ (l : List Single). filter test l) (places_are board))
    ∙ same_passing test (places_of board) 0 suspects (pairs_order (λ (i j : ℕ). i < j) suspects are.rising) (λ i h. omega arith) complete
    ∙ ap (λ (l : List Single). filter test l) (from_first board suspects)
  where
    complete : (j : ℕ) (single : Single) → slice_get (places_of board) j ≡ Some (Some single) → test single ≡ true → Has suspects (0 + j)
    complete j single e on =
        let here : j ≡ 0 + j = omega arith in
        subst (λ (k : ℕ). Has suspects k) here
        (contains_has suspects j
        (are.complete j single e (only single (place_single board rules j single e) on)))
