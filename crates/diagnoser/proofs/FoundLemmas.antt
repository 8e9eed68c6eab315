-- Lemmas about the faults that a search finds among the suspects `from..to`.
use Rattle.std.proofs.Common.{◌≡◌, ℕ, ◌+◌, ◌<◌, ◌≤◌, Bool, true, false, cond, List, [], ◌∷◌, ◌++◌, length, Option, Some, None, Result, Ok, Err, refl, sym, ap, ◌∙◌, subst, inl, inr}
use Rattle.std.specs.Prelude.{filter_map, slice_get, option_and_then, Decides, IfOk, IfSome}
use Rattle.std.specs.List.{cons_option}
use Rattle.std.proofs.lemmas.Bool.{both_ways}
use Rattle.std.proofs.lemmas.List.Elements.{filter_map-append}
use Rattle.std.proofs.lemmas.Option.{slice_get_within, get_or_from_slice_get}
use Rattle.board_defs.specs.declared.board.RawBoard.{RawBoard}
use Rattle.board_defs.specs.declared.fault.Single.{Single}
use Rattle.board_defs.specs.BoardRules.{IsBoard}
use Rattle.board_defs.specs.Faults.{IsSingle}
use Rattle.board_defs.specs.Passes.{ArePasses}
use Rattle.tap_defs.specs.board.Explaining.{Explains}
use Rattle.plan_tables.specs.declared.tables.PlanTables.{PlanTables}
use Rattle.scan_planner.specs.Plans.{IsPlanOf}
use Rattle.fault_sim.specs.declared.fault_lists.FaultLists.{FaultLists}
use Rattle.fault_sim.specs.Places.{IsUniverse, fault_at, listed_at, listed_places, observes_fault, places_of, where_observed}
use Rattle.fault_sim.proofs.OrderLemmas.{place_single}
use Rattle.fault_sim.proofs.UniverseLemmas.{listed_are}
use Rattle.side_by_side.specs.declared.pieces.Piece.{Piece}
use Rattle.side_by_side.specs.Pieces.{GivesTogether, items_between, piece_of, piece_start, said_then, seen_list}
use Rattle.side_by_side.proofs.PieceLemmas.{IsOfRanges, of_pieces}
use Rattle.side_by_side.proofs.RangeLemmas.{range_sum, range_none, range_one}
use Rattle.fault_sim.specs.Diagnosis.{Picks}
use Rattle.diagnoser.specs.inner.Search.{SearchedLog, faults_between, AreFoundBetween}
use Rattle.diagnoser.proofs.ThoseLemmas.{those_append}

pub found_append : (s : SearchedLog) (from middle to : ℕ) (a b : List Single) → from ≤ middle
    → middle ≤ to → AreFoundBetween s from middle a → AreFoundBetween s middle to b
    → AreFoundBetween s from to (a ++ b)
found_append s from middle to a b low high first second =
    let f = fault_at s.logged.test.board in
    let all : faults_between s from middle ++ faults_between s middle to ≡ faults_between s from to =
    sym (ap (λ (l : List ℕ). filter_map f l) (range_sum s.suspects from middle to low high)
    ∙ filter_map-append f (items_between s.suspects from middle) (items_between s.suspects middle to)) in
    subst (λ (l : List Single). Picks (λ single. Explains s.logged.test.board single s.logged.log) l (a ++ b)) all
    (those_append (λ single. Explains s.logged.test.board single s.logged.log)
    (faults_between s from middle) (faults_between s middle to) a b first second)

pub found_nothing : (s : SearchedLog) (i : ℕ) → AreFoundBetween s i i []
found_nothing s i =
    subst
    (λ (l : List ℕ). Picks (λ single. Explains s.logged.test.board single s.logged.log)
    (filter_map (fault_at s.logged.test.board) l) []) (sym (range_none s.suspects i))
    refl

one_candidate : (s : SearchedLog) (i place : ℕ) → slice_get s.suspects i ≡ Some place
    → faults_between s i (i + 1) ≡ cons_option (fault_at s.logged.test.board place) []
one_candidate s i place at =
    ap (filter_map (fault_at s.logged.test.board))
    (range_one s.suspects i place (slice_get_within s.suspects i place at)
    (sym (get_or_from_slice_get s.suspects i place place at)))

found_none : (s : SearchedLog) (i place : ℕ) → slice_get s.suspects i ≡ Some place
    → fault_at s.logged.test.board place ≡ None → AreFoundBetween s i (i + 1) []
found_none s i place at none =
    let empty : [] ≡ faults_between s i (i + 1) = sym (one_candidate s i place at ∙ ap (λ (o : Option Single). cons_option o []) none) in
    subst (λ (l : List Single). Picks (λ q. Explains s.logged.test.board q s.logged.log) l []) empty refl

found_one : (s : SearchedLog) (i place : ℕ) (single : Single) (holds : Bool)
    → slice_get s.suspects i ≡ Some place → fault_at s.logged.test.board place ≡ Some single
    →
    Decides holds (Explains s.logged.test.board single s.logged.log) → AreFoundBetween s i (i + 1) (cond holds (single ∷ []) [])
found_one s i place single holds at some decides =
    let one : single ∷ []
    ≡ faults_between s i (i + 1) = sym
    (one_candidate s i place at ∙ ap (λ (o : Option Single). cons_option o []) some) in
    subst
    (λ (l : List Single). Picks (λ q. Explains s.logged.test.board q s.logged.log) l
    (cond holds (single ∷ []) [])) one (by_test holds decides)
  where
    by_test : (b : Bool) → Decides b (Explains s.logged.test.board single s.logged.log)
        → Picks (λ q. Explains s.logged.test.board q s.logged.log) (single ∷ [])
        (cond b (single ∷ []) [])
    by_test true decides = inl ([], decides.0 refl, refl, refl)
    by_test false decides = inr ((λ explains. let bad : false ≡ true = decides.1 explains in cc bad), refl)

-- Lemmas about a search at one place. A place is the number of a possible single fault.
module _ (s : SearchedLog) (place : ℕ) where
  abbrev plan : PlanTables
  plan = s.logged.test.plan

  pub found_no_fault : (i : ℕ) → slice_get s.suspects i ≡ Some place
      → fault_at s.logged.test.board place ≡ None → AreFoundBetween s i (i + 1) []
  found_no_fault i at none = found_none s i place at none

  pub found_candidate : (fault : Single) → fault_at s.logged.test.board place ≡ where_observed plan (Some fault)
      → (i : ℕ) (holds : Bool) → slice_get s.suspects i ≡ Some place →
      Decides holds
      ((observes_fault plan fault ≡ true)
      × Explains s.logged.test.board fault s.logged.log)
      → AreFoundBetween s i (i + 1) (cond holds (fault ∷ []) [])
  found_candidate fault there i holds at decides = by_test (observes_fault plan fault) refl
    where
      by_answer : (b : Bool) → holds ≡ b → observes_fault plan fault ≡ false → AreFoundBetween s i (i + 1) (cond b (fault ∷ []) [])
      by_answer true e off = absurd (both_ways (observes_fault plan fault) off (decides.0 e).0)
      by_answer false e off =
          found_none s i place at
          (there ∙ ap (λ (b : Bool). cond b (Some fault) None) off)

      by_test : (t : Bool) → observes_fault plan fault ≡ t → AreFoundBetween s i (i + 1) (cond holds (fault ∷ []) [])
      by_test true on =
          found_one s i place fault holds at (there ∙ ap (λ (b : Bool). cond b (Some fault) None) on)
          (λ e. (decides.0 e).1, λ explains. decides.1 (on, explains))
      by_test false off = by_answer holds refl off

-- Lemmas about the fault that the lists of a board's universe have at a place.
module _ (board : RawBoard) (rules : IsBoard board) (plan : PlanTables) (p : IsPlanOf board plan)
    (are : ArePasses board plan.passes) (lists : FaultLists) (universe : IsUniverse board lists)
    (place : ℕ) (fault : Option Single)
    (candidate : (plan : PlanTables) → listed_at (listed_places plan lists) place ≡ where_observed plan fault) where
  pub place_has : fault_at board place ≡ where_observed plan fault
  place_has =
      sym (ap (λ (l : List (Option Single)). listed_at l place) (listed_are board rules plan p are lists universe))
      ∙ candidate plan

  pub candidate_single : IfSome fault (λ single. observes_fault plan single ≡ true → IsSingle board single)
  candidate_single = by_fault fault place_has
    where
      there : (single : Single) (o : Option (Option Single)) → option_and_then (λ p. p) o ≡ Some single → o ≡ Some (Some single)
      there single None e = cc e
      there single (Some None) e = cc e
      there single (Some (Some other)) e = ap Some e

      by_fault : (o : Option Single) → fault_at board place ≡ where_observed plan o
          → IfSome o (λ single. observes_fault plan single ≡ true → IsSingle board single)
      by_fault None e = tt
      by_fault (Some single) e = λ observed.
          place_single board rules place single
          (there single (slice_get (places_of board) place) (e ∙ ap (λ (b : Bool). cond b (Some single) None) observed))

-- the faults found in two adjacent ranges, joined, are the faults found in both ranges
found_ranges : (s : SearchedLog) (items : ℕ) {E : Type 0} → IsOfRanges {E = E} items (λ from to said. IfOk said (AreFoundBetween s from to))
found_ranges s items = record {
  nothing = found_nothing s;
  both = λ from middle to said later low high within. both from middle to said later low high;
}
  where
    both : {E : Type 0} (from middle to : ℕ) (said later : Result (List Single) E) → from ≤ middle
        → middle ≤ to → IfOk said (AreFoundBetween s from middle)
        → IfOk later (AreFoundBetween s middle to)
        → IfOk (said_then said later) (AreFoundBetween s from to)
    both from middle to (Ok a) (Ok b) low high first second = found_append s from middle to a b low high first second
    both from middle to (Ok a) (Err e) low high first second = tt
    both from middle to (Err e) later low high first second = tt

found_seen : (s : SearchedLog) (from to : ℕ) {V E : Type 0} (view : V → List Single)
    (answer : Result V E) → IfOk answer (λ v. AreFoundBetween s from to (view v))
    → IfOk (seen_list view answer) (AreFoundBetween s from to)
found_seen s from to view (Ok v) found = found
found_seen s from to view (Err e) found = tt

seen_found : (s : SearchedLog) (from to : ℕ) {V E : Type 0} (view : V → List Single)
    (answer : Result V E) → IfOk (seen_list view answer) (AreFoundBetween s from to)
    → IfOk answer (λ v. AreFoundBetween s from to (view v))
seen_found s from to view (Ok v) found = found
seen_found s from to view (Err e) found = tt

-- if each piece finds the faults of its candidates, the joined faults are the faults found among all candidates
pub found_pieces : (s : SearchedLog) (items pieces : ℕ) → 0 < pieces → items ≡ length s.suspects
    → {V E : Type 0} (view : V → List Single) (Gives : Piece → Result V E → Type 0)
    (IsRefusal : E → Type 0) (result : Result V E)
    → GivesTogether view Gives IsRefusal items pieces result →
    ((number : ℕ) (answer : Result V E) → Gives (piece_of items pieces number) answer
    → IfOk answer
    (λ v. AreFoundBetween s (piece_start items pieces number)
    (piece_start items pieces (number + 1)) (view v))) →
    IfOk result (λ v. AreFoundBetween s 0 (length s.suspects) (view v))
found_pieces s items pieces some count {V} {E} view Gives IsRefusal result gives each =
    subst (λ (n : ℕ). IfOk result (λ v. AreFoundBetween s 0 n (view v))) count
    (seen_found s 0 items view result
    (of_pieces items (λ from to said. IfOk said (AreFoundBetween s from to)) view pieces some (found_ranges s items) Gives IsRefusal result
    (λ number answer within found. found_seen s (piece_start items pieces number)
    (piece_start items pieces (number + 1)) view answer (each number answer found))
    (λ fault refused. tt) gives))
