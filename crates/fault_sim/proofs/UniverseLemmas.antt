-- Lemmas which say that the places that follow from the lists of covered nets and tested pins are the places of the board.
use Rattle.std.proofs.Common.{◌≡◌, ◌≢◌, ◌⊎◌, inl, inr, ℕ, ◌<◌, Bool, cond, List, [], ◌∷◌, ◌++◌, map, Option, Some, None, refl, sym, ap, ◌∙◌, subst, arith}
use Rattle.std.specs.Prelude.{slice_get}
use Rattle.std.specs.List.{flat_map}
use Rattle.std.proofs.lemmas.List.{map-append}
use Rattle.std.proofs.lemmas.List.Folds.{flat_map-map}
use Rattle.board_defs.specs.declared.board.RawBoard.{RawBoard}
use Rattle.board_defs.specs.declared.fault.Single.{Single}
use Rattle.board_defs.specs.BoardRules.{IsBoard}
use Rattle.board_defs.specs.Decided.{is_covered}
use Rattle.board_defs.specs.Faults.{Numbered, numbered_nets, covered_nets, stuck_faults, open_faults, short_faults}
use Rattle.board_defs.specs.Passes.{ArePasses, pairs_within}
use Rattle.board_defs.proofs.Members.{Has, has_at, has_append, map_has, filter_has, enumerate_has, Apart, pairs_within_has}
use Rattle.board_defs.proofs.Ordered.{InOrder, order_filter, order_enumerate}
use Rattle.plan_tables.specs.declared.tables.PlanTables.{PlanTables}
use Rattle.scan_planner.specs.Plans.{IsPlanOf}
use Rattle.fault_sim.specs.declared.fault_lists.FaultLists.{FaultLists}
use Rattle.fault_sim.specs.Places.{as_places, pair_places, stuck_places, open_places, places_of, IsUniverse, number_places, listed_places}
use Rattle.fault_sim.proofs.TestedLemmas.{paired_in_is}

flat_same : {X Z : Type 0} (f g : X → List Z) (xs : List X) → ((x : X) → Has xs x → f x ≡ g x) → flat_map f xs ≡ flat_map g xs
flat_same f g [] same = refl
flat_same {X} {Z} f g (x ∷ xs) same =
    ap (λ (l : List Z). l ++ flat_map f xs) (same x (inl refl)) ∙ ap (λ (l : List Z). g x ++ l) (flat_same f g xs (λ y h. same y (inr h)))

abbrev numbers : Numbered × Numbered → ℕ × ℕ
numbers pair = (pair.0.0, pair.1.0)

first_of : (m : Numbered) (xs : List Numbered)
    → map (λ y. let p : ℕ × ℕ = (m.0, y) in p) (map (λ (v : Numbered). v.0) xs)
    ≡ map numbers (map (λ y. let p : Numbered × Numbered = (m, y) in p) xs)
first_of m [] = refl
first_of m (x ∷ xs) = ap (λ (l : List (ℕ × ℕ)). (m.0, x.0) ∷ l) (first_of m xs)

pairs_over : (xs : List Numbered) → pairs_within (map (λ (v : Numbered). v.0) xs) ≡ map numbers (pairs_within xs)
pairs_over [] = refl
pairs_over (x ∷ xs) =
    ap (λ (l : List (ℕ × ℕ)). l ++ pairs_within (map (λ (v : Numbered). v.0) xs)) (first_of x xs)
    ∙ ap (λ (l : List (ℕ × ℕ)). map numbers (map (λ y. let p : Numbered × Numbered = (x, y) in p) xs) ++ l) (pairs_over xs)
    ∙ sym (map-append numbers (map (λ y. let p : Numbered × Numbered = (x, y) in p) xs) (pairs_within xs))

-- if a list of numbered nets is in order, the first net of each pair has the lower number
pub pairs_rise : (xs : List Numbered) → InOrder (λ (p q : Numbered). p.0 < q.0) xs
    → (pair : Numbered × Numbered) → Has (pairs_within xs) pair → pair.0.0 < pair.1.0
pairs_rise [] order pair h = absurd h
pairs_rise (x ∷ xs) order pair h =
    by_part
    (has_append (map (λ y. let p : Numbered × Numbered = (x, y) in p) xs) (pairs_within xs) pair h)
    (pairs_rise xs order.1 pair)
  where
    by_part : Has (map (λ y. let p : Numbered × Numbered = (x, y) in p) xs) pair
        ⊎ Has (pairs_within xs) pair → (Has (pairs_within xs) pair → pair.0.0 < pair.1.0)
        → pair.0.0 < pair.1.0
    by_part (inr k) rest = rest k
    by_part (inl k) rest =
        let r = map_has (λ y. let p : Numbered × Numbered = (x, y) in p) xs pair k in
        subst (λ (p : Numbered × Numbered). p.0.0 < p.1.0) r.2 (order.0 r.0 r.1)

pub covered_order : (board : RawBoard) → InOrder (λ (p q : Numbered). p.0 < q.0) (covered_nets board)
covered_order board =
    order_filter (λ (p q : Numbered). p.0 < q.0) (λ net. is_covered board net.1)
    (numbered_nets board) (order_enumerate 0 board.nets)

pub covered_at : (board : RawBoard) (m : Numbered) → Has (covered_nets board) m → slice_get board.nets m.0 ≡ Some m.1
covered_at board m h =
    let f = filter_has (λ (net : Numbered). is_covered board net.1) (numbered_nets board) m h in
    let r = enumerate_has 0 board.nets m.0 m.1 f.0 in
    let at : m.0 ≡ r.0 = omega (arith, r.1) in
    ap (λ (i : ℕ). slice_get board.nets i) at ∙ r.2

module _ (board : RawBoard) (rules : IsBoard board) (plan : PlanTables) (p : IsPlanOf board plan)
    (are : ArePasses board plan.passes) (lists : FaultLists) (universe : IsUniverse board lists)
  where
    pair_is : (pair : Numbered × Numbered) → Has (pairs_within (covered_nets board)) pair
        → number_places plan (numbers pair) ≡ pair_places board pair
    pair_is pair h =
        let a : Apart (covered_nets board) pair = pairs_within_has (covered_nets board) pair h in
        let first = covered_at board pair.0 (has_at (covered_nets board) a.low pair.0 a.at_low) in
        let second = covered_at board pair.1 (has_at (covered_nets board) a.high pair.1 a.at_high) in
        let less = pairs_rise (covered_nets board) (covered_order board) pair h in
        ap (λ (b : Bool). cond b (as_places (short_faults pair.0.0 pair.1.0)) (None ∷ None ∷ None ∷ None ∷ []))
        (paired_in_is board rules plan p are pair.0.0 pair.1.0 pair.0.1 pair.1.1 first second (λ e. differ pair.0.0 pair.1.0 less e))
      where
        differ : (m n : ℕ) → m < n → m ≢ n
        differ m n less e = omega (arith, less, e)

    pub listed_are : listed_places plan lists ≡ places_of board
    listed_are =
        ap
        (λ (l : List ℕ). as_places (flat_map stuck_faults l)
        ++ (as_places (flat_map open_faults lists.pins)
        ++ flat_map (number_places plan) (pairs_within l))) universe.nets
        ∙ ap
        (λ l. as_places
        (flat_map stuck_faults (map (λ (net : Numbered). net.0) (covered_nets board)))
        ++ (as_places (flat_map open_faults l)
        ++ flat_map (number_places plan)
        (pairs_within (map (λ (net : Numbered). net.0) (covered_nets board))))) universe.pins
        ∙ ap
        (λ (l : List Single). as_places l
        ++ (open_places board
        ++ flat_map (number_places plan)
        (pairs_within (map (λ (net : Numbered). net.0) (covered_nets board)))))
        (flat_map-map stuck_faults (λ (net : Numbered). net.0) (covered_nets board))
        ∙ ap (λ (l : List (Option Single)). stuck_places board ++ (open_places board ++ l))
        (ap (λ (l : List (ℕ × ℕ)). flat_map (number_places plan) l) (pairs_over (covered_nets board))
        ∙ flat_map-map (number_places plan) numbers (pairs_within (covered_nets board))
        ∙ flat_same (λ pair. number_places plan (numbers pair)) (pair_places board) (pairs_within (covered_nets board)) pair_is)
