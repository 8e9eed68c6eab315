-- Lemmas which say that every place whose fault explains a log is among the log's suspects.
use Rattle.std.proofs.Common.{◌≡◌, ◌≢◌, ◌⊎◌, inl, inr, ℕ, zero, suc, ◌+◌, ◌-◌, ◌*◌, ◌/◌, ◌%◌, ◌<◌, ◌≤◌, ◌==◌, Bool, true, false, cond, ◌||◌, List, [], ◌∷◌, ◌++◌, length, drop, get_or, Option, Some, None, refl, sym, ap, ◌∙◌, subst, arith, length-append}
use Rattle.std.specs.Prelude.{◌↔◌, slice_get, count_by, All, Contains}
use Rattle.std.specs.List.{flat_map, list_all, range_with_len}
use Rattle.std.proofs.lemmas.Bool.{both_ways, eq-eqb, cases_lt, cases_eq, ne_eqb, or_right}
use Rattle.std.proofs.lemmas.List.{drop_all}
use Rattle.std.proofs.lemmas.List.Sums.{sum_by-cons}
use Rattle.std.proofs.lemmas.Option.{slice_get_within, get_or_from_slice_get}
use Rattle.std.proofs.Math.Seq.{drop-cons}
use Rattle.lists.proofs.ListLemmas.{item_there}
use Rattle.board_defs.specs.declared.board.PinRef.{PinRef}
use Rattle.board_defs.specs.declared.board.RawBoard.{RawBoard}
use Rattle.board_defs.specs.declared.board.Ctl.{Ctl}
use Rattle.board_defs.specs.declared.fault.Kind.{Kind}
use Rattle.board_defs.specs.declared.fault.Kind.TheVariants.{And, Or, First, Second}
use Rattle.board_defs.specs.declared.fault.Single.{Single}
use Rattle.board_defs.specs.declared.fault.Single.TheVariants.{StuckNet, OpenPin, Short}
use Rattle.board_defs.specs.BoardRules.{IsBoard}
use Rattle.board_defs.specs.Faults.{Numbered, covered_nets, IsSingle, kind_rank, stuck_faults, open_faults, short_faults}
use Rattle.board_defs.specs.declared.board.Net.{Net}
use Rattle.board_defs.specs.Decided.{is_covered}
use Rattle.board_defs.specs.Passes.{ArePasses, pairs_within, passes_of}
use Rattle.board_defs.specs.Pins.{data_bits}
use Rattle.board_defs.proofs.Members.{Has, has_at, has_contains, contains_has, all_from_has, all_has}
use Rattle.board_defs.proofs.Places.{all_from}
use Rattle.board_defs.proofs.Ordered.{InOrder, order_map, order_pairs}
use Rattle.tap_defs.specs.board.BoardScans.{svf_row_scans}
use Rattle.tap_defs.specs.board.Explaining.{CompareRows, HasShape, Explains, IsExpected, ShowsBits, compared_scans}
use Rattle.tap_defs.specs.board.SingleBits.{single_bit}
use Rattle.tap_defs.specs.board.TestRows.{code_row, code_width, observed_count, is_observed}
use Rattle.tap_defs.proofs.board.ScanPlaceLemmas.{front_at, rest_at}
use Rattle.plan_tables.specs.declared.tables.PlanTables.{PlanTables}
use Rattle.scan_planner.specs.Plans.{IsPlanOf}
use Rattle.fault_sim.specs.declared.effect.Effect.{Effect}
use Rattle.fault_sim.specs.declared.effect.Effect.TheVariants.{Plain, Constant}
use Rattle.fault_sim.specs.declared.fault_lists.FaultLists.{FaultLists}
use Rattle.fault_sim.specs.Effects.{driver_in, place_of_driver, plan_readers, code_in, open_effect, effect_of_short, effect_of, pull_in, first_net, second_net}
use Rattle.fault_sim.specs.Fits.{ShowBy, Shows, ShowsOn, ShowsOwn, ShowsAll}
use Rattle.fault_sim.specs.inner.Tested.{paired_in, coded_nets}
use Rattle.fault_sim.specs.Places.{as_places, number_places, listed_places, place_count, places_of, IsUniverse}
use Rattle.fault_sim.specs.Starts.{ArePairStarts}
use Rattle.fault_sim.specs.Suspects.{suspect_count, AreDiffering, AreSuspects}
use Rattle.fault_sim.specs.inner.Suspects.{two_from, four_from, first_open, first_short, pair_number, pair_suspects, pin_net, is_net, pin_suspects, net_suspects, covered_place, suspects_of}
use Rattle.fault_sim.proofs.PlaceLemmas.{flat_at, length-flat, length-four, stuck_fault, open_fault, short_fault, no_fault, stuck_length, opens_length}
use Rattle.fault_sim.proofs.MatchLemmas.{explains_is, expected_is}
use Rattle.fault_sim.proofs.TestedLemmas.{nets_are}
use Rattle.fault_sim.proofs.UniverseLemmas.{covered_order, listed_are}
use Rattle.fault_sim.proofs.OrderLemmas.{place_single}
use Rattle.fault_sim.proofs.DifferLemmas.{differing_observed, covered_there}
use Rattle.fault_sim.proofs.SuspectLemmas.{PairAt, pair_at, net_order, net_below, has_stuck, has_open, has_earlier, has_later, pair_order, pair_below, has_pair}

-- `covered_place` is the index of a net in the list of covered nets, or 0 for a net without a code. If `nets`
-- has one net, the index of this net is within the list of covered nets. If `nets` has two nets, both indexes
-- are within the list, and the first index is lower. Any other `nets` satisfies the condition.
abbrev pub CanSuspect : PlanTables → FaultLists → List ℕ → Type 0
CanSuspect plan lists [] = Unit {0}
CanSuspect plan lists (n ∷ []) = covered_place plan n < length lists.nets
CanSuspect plan lists (m ∷ n ∷ []) = (covered_place plan m < covered_place plan n) × (covered_place plan n < length lists.nets)
CanSuspect plan lists (m ∷ n ∷ o ∷ nets) = Unit {0}

-- Place i has this fault. The place belongs to a stuck net, to an open pin or to a short.
pub data PlaceOf (lists : FaultLists) (i : ℕ) (single : Single) : Type 0 where
  at_stuck : (m r net : ℕ) (value : Bool) → slice_get lists.nets m ≡ Some net → r < 2
      → i ≡ 2 * m + r → StuckNet net value ≡ single → PlaceOf lists i single
  at_open : (m r : ℕ) (pin : PinRef) (value : Bool) → slice_get lists.pins m ≡ Some pin → r < 2
      → i ≡ first_open lists + (2 * m + r) → OpenPin pin value ≡ single → PlaceOf lists i single
  at_short : (a b r x y : ℕ) (kind : Kind) → a < b → slice_get lists.nets a ≡ Some x
      → slice_get lists.nets b ≡ Some y → r < 4
      → i ≡ first_short lists + (4 * pair_number lists a b + r) → Short x y kind ≡ single →
      PlaceOf lists i single

placed_at : (faults : List Single) (i : ℕ) (single : Single)
    → slice_get (as_places faults) i ≡ Some (Some single) → slice_get faults i ≡ Some single
placed_at [] i single e = cc e
placed_at (fault ∷ faults) zero single e = let two : Some fault ≡ Some single = cc e in two
placed_at (fault ∷ faults) (suc i) single e = placed_at faults i single e

abbrev kind_of : ℕ → Kind
kind_of zero = And
kind_of (suc zero) = Or
kind_of (suc (suc zero)) = First
kind_of (suc (suc (suc r))) = Second

rank_of : (r : ℕ) → r < 4 → kind_rank (kind_of r) ≡ r
rank_of zero less = refl
rank_of (suc zero) less = refl
rank_of (suc (suc zero)) less = refl
rank_of (suc (suc (suc zero))) less = refl
rank_of (suc (suc (suc (suc r)))) less = absurd (omega (arith, less))

module _ (plan : PlanTables) (lists : FaultLists) (starts : ArePairStarts (length lists.nets) lists.starts) where
  abbrev stuck : List (Option Single)
  stuck = as_places (flat_map stuck_faults lists.nets)

  abbrev opens : List (Option Single)
  opens = as_places (flat_map open_faults lists.pins)

  abbrev shorts : List (Option Single)
  shorts = flat_map (number_places plan) (pairs_within lists.nets)

  module _ (i : ℕ) (single : Single) (at : slice_get (listed_places plan lists) i ≡ Some (Some single)) where
    by_stuck : i < 2 * length lists.nets → PlaceOf lists i single
    by_stuck less =
        let net = item_there lists.nets (i / 2) (omega (arith, less)) in
        let here = placed_at (flat_map stuck_faults lists.nets) i single
        (sym (front_at stuck (opens ++ shorts) i (omega (arith, less, stuck_length plan lists)))
        ∙ at) in
        let two : Some (StuckNet (net.0) ((i % 2) == 1)) ≡ Some single =
        sym
        (flat_at stuck_faults 2 (λ n. refl) lists.nets (i / 2) (net.0) net.1 (i % 2) i
        (omega arith) (omega arith) ∙ stuck_fault (net.0) (i % 2) (omega arith)) ∙ here in
        at_stuck (i / 2) (i % 2) (net.0) ((i % 2) == 1) net.1 (omega arith) (omega arith) (cc two)

    by_open : 2 * length lists.nets ≤ i → i < 2 * length lists.nets + 2 * length lists.pins → PlaceOf lists i single
    by_open above less =
        let k : ℕ = i - 2 * length lists.nets in
        let pin = item_there lists.pins (k / 2) (omega (arith, less, above)) in
        let here = placed_at (flat_map open_faults lists.pins) k single
        (sym
        (rest_at stuck (opens ++ shorts) k i
        (omega (arith, above, stuck_length plan lists))
        ∙ front_at opens shorts k
        (omega (arith, less, above, opens_length plan lists))) ∙ at) in
        let two : Some (OpenPin (pin.0) ((k % 2) == 1)) ≡ Some single =
        sym
        (flat_at open_faults 2 (λ n. refl) lists.pins (k / 2) (pin.0) pin.1 (k % 2) k
        (omega arith) (omega arith) ∙ open_fault (pin.0) (k % 2) (omega arith)) ∙ here in
        at_open (k / 2) (k % 2) (pin.0) ((k % 2) == 1) pin.1 (omega arith) (omega (arith, above)) (cc two)

    by_short : 2 * length lists.nets + 2 * length lists.pins ≤ i → PlaceOf lists i single
    by_short above =
        let k : ℕ = i - (2 * length lists.nets + 2 * length lists.pins) in
        let here : slice_get shorts k ≡ Some (Some single) =
        sym
        (rest_at stuck (opens ++ shorts) (2 * length lists.pins + k) i
        (omega (arith, above, stuck_length plan lists))
        ∙ rest_at opens shorts k (2 * length lists.pins + k)
        (omega (arith, opens_length plan lists))) ∙ at in
        let within : k < length shorts = slice_get_within shorts k (Some single) here in
        let pair = item_there (pairs_within lists.nets) (k / 4)
        (omega (
          arith,
          within,
          length-flat (number_places plan) 4 (length-four plan) (pairs_within lists.nets),
        )) in
        let inside : slice_get (number_places plan (pair.0)) (k % 4) ≡ Some (Some single) =
        sym
        (flat_at (number_places plan) 4 (length-four plan) (pairs_within lists.nets) (k / 4)
        (pair.0) pair.1 (k % 4) k (omega arith) (omega arith)) ∙ here in
        by_pair k (omega (arith, above)) (pair.0) (pair_at lists.nets (k / 4) (pair.0) pair.1)
        (paired_in plan ((pair.0).0) ((pair.0).1)) inside
      where
        by_pair : (k : ℕ) → i ≡ first_short lists + k → (pair : ℕ × ℕ) → PairAt lists.nets (k / 4) pair → (b : Bool) →
            slice_get
            (cond b (as_places (short_faults (pair.0) (pair.1)))
            (None ∷ None ∷ None ∷ None ∷ [])) (k % 4) ≡ Some (Some single)
            → PlaceOf lists i single
        by_pair k place pair q false e = let bad : Some None ≡ Some (Some single) = sym (no_fault (k % 4) (omega arith)) ∙ e in cc bad
        by_pair k place pair q true e =
            let f = placed_at (short_faults (pair.0) (pair.1)) (k % 4) single e in
            let two : Some (Short (pair.0) (pair.1) (kind_of (k % 4)))
            ≡ Some single = sym
            (short_fault (pair.0) (pair.1) (k % 4) (kind_of (k % 4))
            (rank_of (k % 4) (omega arith))) ∙ f in
            let number : pair_number lists q.low q.high ≡ k / 4 =
            ap (λ (n : ℕ). n + (q.high - suc q.low))
            (starts.each q.low
            (omega (arith, slice_get_within lists.nets q.low (pair.0) q.low_is)))
            ∙ omega (arith, q.number_is, q.order) in
            at_short q.low q.high (k % 4) (pair.0) (pair.1) (kind_of (k % 4)) q.order q.low_is
            q.high_is (omega arith) (omega (arith, place, number)) (cc two)

    pub place_of : PlaceOf lists i single
    place_of = by_first (cases_lt i (2 * length lists.nets))
      where
        by_second : 2 * length lists.nets ≤ i
            → (i < 2 * length lists.nets + 2 * length lists.pins)
            ⊎ (2 * length lists.nets + 2 * length lists.pins ≤ i) → PlaceOf lists i single
        by_second above (inl less) = by_open above less
        by_second above (inr more) = by_short more

        by_first : (i < 2 * length lists.nets) ⊎ (2 * length lists.nets ≤ i) → PlaceOf lists i single
        by_first (inl less) = by_stuck less
        by_first (inr above) = by_second above (cases_lt i (2 * length lists.nets + 2 * length lists.pins))

stands_once : (xs : List ℕ) → InOrder (λ (x y : ℕ). x < y) xs → (a b x y : ℕ)
    → slice_get xs a ≡ Some x → slice_get xs b ≡ Some y → x ≡ y → a ≡ b
stands_once [] order a b x y ea eb same = cc ea
stands_once (z ∷ xs) order zero zero x y ea eb same = refl
stands_once (z ∷ xs) order zero (suc b) x y ea eb same =
    let first : z ≡ x = cc ea in absurd (omega (arith, first, same, order.0 y (has_at xs b y eb)))
stands_once (z ∷ xs) order (suc a) zero x y ea eb same =
    let first : z ≡ y = cc eb in absurd (omega (arith, first, same, order.0 x (has_at xs a x ea)))
stands_once (z ∷ xs) order (suc a) (suc b) x y ea eb same = ap suc (stands_once xs order.1 a b x y ea eb same)

places_order : (xs : List ℕ) → InOrder (λ (x y : ℕ). x < y) xs → (a b x y : ℕ)
    → slice_get xs a ≡ Some x → slice_get xs b ≡ Some y → a < b → x < y
places_order [] order a b x y ea eb less = cc ea
places_order (z ∷ xs) order zero zero x y ea eb less = absurd (omega (arith, less))
places_order (z ∷ xs) order zero (suc b) x y ea eb less = let first : z ≡ x = cc ea in omega (arith, first, order.0 y (has_at xs b y eb))
places_order (z ∷ xs) order (suc a) zero x y ea eb less = absurd (omega (arith, less))
places_order (z ∷ xs) order (suc a) (suc b) x y ea eb less = places_order xs order.1 a b x y ea eb (omega (arith, less))

plain_effect : (board : RawBoard) (plan : PlanTables) (pass : List Ctl) (single : Single) (n : ℕ)
    → n ≢ first_net single → n ≢ second_net single → effect_of board plan pass single n ≡ Plain
plain_effect board plan pass (StuckNet net value) n a b = ap (λ (t : Bool). cond t (Constant value) Plain) (ne_eqb n net a)
plain_effect board plan pass (OpenPin pin value) n a b =
    ap
    (λ (t : Bool). cond t
    (open_effect (place_of_driver (driver_in plan pass n)) pin.place value (pull_in board n))
    Plain) (ne_eqb n pin.net a)
plain_effect board plan pass (Short x y kind) n a b =
    ap (λ (t : Bool). cond (t || (n == y)) (effect_of_short board plan pass x y kind) Plain) (ne_eqb n x a)
    ∙ ap (λ (t : Bool). cond t (effect_of_short board plan pass x y kind) Plain) (ne_eqb n y b)

pub others_show : (board : RawBoard) (plan : PlanTables) (log : List (List Bool)) (single : Single)
    (n : ℕ) → n < length board.nets → ShowsAll board plan (Some single) log → n ≢ first_net single
    → n ≢ second_net single →
    ShowsOn board plan None log n
others_show board plan log single n within show a b x less =
    subst
    (λ (effect : Effect). ShowBy log (x * plan.width) plan.width (code_in plan n)
    (plan_readers plan n) effect
    (place_of_driver (driver_in plan (get_or plan.passes x []) n)))
    (plain_effect board plan (get_or plan.passes x []) single n a b) (show x less n within)

-- If only the fault's own nets differ, the log shows the fault on all nets if and only if it shows the fault on these nets.
module _ (board : RawBoard) (plan : PlanTables) (log : List (List Bool)) (single : Single) (a b : ℕ)
    (first : a ≡ first_net single) (second : b ≡ second_net single) (nets : List ℕ)
    (differ : AreDiffering board plan log nets) where
  is_one : ℕ → Bool
  is_one n = (n == a) || (n == b)

  pub are_own : ShowsAll board plan (Some single) log → list_all (λ n. (n == a) || (n == b)) nets ≡ true
  are_own show = all_from (λ n. (n == a) || (n == b)) nets (λ i n at. by_first n (has_contains nets n (has_at nets i n at)) (cases_eq n a))
    where
      by_second : (n : ℕ) → Contains nets n → n ≢ a → (n ≡ b) ⊎ (n ≡ b → ⊥) → ((n == a) || (n == b)) ≡ true
      by_second n has not_a (inl e) = or_right (n == a) (n == b) (eq-eqb n b e)
      by_second n has not_a (inr not_b) =
          let d = (differ.exactly n).0 has in
          absurd (d.1 (others_show board plan log single n d.0 show (λ e. not_a (e ∙ sym first)) (λ e. not_b (e ∙ sym second))))

      by_first : (n : ℕ) → Contains nets n → (n ≡ a) ⊎ (n ≡ a → ⊥) → ((n == a) || (n == b)) ≡ true
      by_first n has (inl e) = ap (λ (t : Bool). t || (n == b)) (eq-eqb n a e)
      by_first n has (inr not_a) = by_second n has not_a (cases_eq n b)

  pub own_enough : list_all (λ n. (n == a) || (n == b)) nets ≡ true → ShowsOwn board plan single log → ShowsAll board plan (Some single) log
  own_enough own shown_own x less n within = by_first (cases_eq n a)
    where
      shown : n ≢ a → n ≢ b → Contains nets n ⊎ ShowsOn board plan None log n → Shows board plan (Some single) log x n
      shown not_a not_b (inl has) =
          absurd
          (both_ways ((n == a) || (n == b))
          (ap (λ (t : Bool). t || (n == b)) (ne_eqb n a not_a) ∙ ne_eqb n b not_b)
          (all_has (λ (m : ℕ). (m == a) || (m == b)) nets n own (contains_has nets n has)))
      shown not_a not_b (inr shows) =
          subst
          (λ (effect : Effect). ShowBy log (x * plan.width) plan.width (code_in plan n)
          (plan_readers plan n) effect
          (place_of_driver (driver_in plan (get_or plan.passes x []) n)))
          (sym
          (plain_effect board plan (get_or plan.passes x []) single n
          (λ e. not_a (e ∙ sym first)) (λ e. not_b (e ∙ sym second)))) (shows x less)

      by_second : n ≢ a → (n ≡ b) ⊎ (n ≡ b → ⊥) → Shows board plan (Some single) log x n
      by_second not_a (inl e) = subst (λ (m : ℕ). Shows board plan (Some single) log x m) (sym (e ∙ second)) (shown_own x less).1
      by_second not_a (inr not_b) = shown not_a not_b (differ.others n within)

      by_first : (n ≡ a) ⊎ (n ≡ a → ⊥) → Shows board plan (Some single) log x n
      by_first (inl e) = subst (λ (m : ℕ). Shows board plan (Some single) log x m) (sym (e ∙ first)) (shown_own x less).0
      by_first (inr not_a) = by_second not_a (cases_eq n b)

module _ (board : RawBoard) (plan : PlanTables) (lists : FaultLists)
    (starts : ArePairStarts (length lists.nets) lists.starts)
    (rising : InOrder (λ (x y : ℕ). x < y) lists.nets) (log : List (List Bool))
    (decided : (n : ℕ) → n < length board.nets → ShowsOn board plan None log n ⊎ (ShowsOn board plan None log n → ⊥))
    (there : (n : ℕ) → n < length board.nets → (ShowsOn board plan None log n → ⊥) → slice_get lists.nets (covered_place plan n) ≡ Some n)
    (unexplained : (single : Single) → ShowsAll board plan None log → Explains board single log → IsSingle board single → ⊥)
    (shown : (single : Single) → IsSingle board single → Explains board single log → ShowsAll board plan (Some single) log)
    (listed : listed_places plan lists ≡ places_of board)
    (singles : (i : ℕ) (single : Single) → slice_get (places_of board) i ≡ Some (Some single) → IsSingle board single) where
  module _ (nets : List ℕ) (differ : AreDiffering board plan log nets) where
    stands : (n : ℕ) → Contains nets n → slice_get lists.nets (covered_place plan n) ≡ Some n
    stands n h = let e = (differ.exactly n).0 h in there n e.0 e.1

    is_of : (single : Single) → IsSingle board single → Explains board single log → (n : ℕ)
        → Contains nets n → (n ≡ first_net single) ⊎ (n ≡ second_net single)
    is_of single is_single explains n h = by_first (cases_eq n (first_net single))
      where
        by_second : n ≢ first_net single → (n ≡ second_net single) ⊎ (n ≡ second_net single → ⊥)
            → (n ≡ first_net single) ⊎ (n ≡ second_net single)
        by_second a (inl e) = inr e
        by_second a (inr b) =
            let e = (differ.exactly n).0 h in
            absurd
            (e.1 (others_show board plan log single n e.0 (shown single is_single explains) a b))

        by_first : (n ≡ first_net single) ⊎ (n ≡ first_net single → ⊥) → (n ≡ first_net single) ⊎ (n ≡ second_net single)
        by_first (inl e) = inl e
        by_first (inr a) = by_second a (cases_eq n (second_net single))

  has_first : (n : ℕ) (nets : List ℕ) → Contains (n ∷ nets) n
  has_first n nets = has_contains (n ∷ nets) n (inl refl)

  pub can_suspect : (nets : List ℕ) → AreDiffering board plan log nets → CanSuspect plan lists nets
  can_suspect [] differ = tt
  can_suspect (n ∷ []) differ = slice_get_within lists.nets (covered_place plan n) n (stands (n ∷ []) differ n (has_first n []))
  can_suspect (m ∷ n ∷ []) differ =
      let at_m = stands (m ∷ n ∷ []) differ m (has_first m (n ∷ [])) in
      let at_n = stands (m ∷ n ∷ []) differ n (has_contains (m ∷ n ∷ []) n (inr (inl refl))) in
      let less : m < n = differ.rising 0 1 0 (omega arith) (omega arith) in (
        by_side less at_m at_n (cases_lt (covered_place plan m) (covered_place plan n)),
        slice_get_within lists.nets (covered_place plan n) n at_n,
      )
    where
      by_side : m < n → slice_get lists.nets (covered_place plan m) ≡ Some m → slice_get lists.nets (covered_place plan n) ≡ Some n →
          (covered_place plan m < covered_place plan n)
          ⊎ (covered_place plan n ≤ covered_place plan m)
          → covered_place plan m < covered_place plan n
      by_side less at_m at_n (inl h) = h
      by_side less at_m at_n (inr h) = absurd (by_equal less at_m at_n h (cases_eq (covered_place plan n) (covered_place plan m)))
        where
          by_equal : m < n → slice_get lists.nets (covered_place plan m) ≡ Some m
              → slice_get lists.nets (covered_place plan n) ≡ Some n
              → covered_place plan n ≤ covered_place plan m →
              (covered_place plan n ≡ covered_place plan m) ⊎ (covered_place plan n ≡ covered_place plan m → ⊥) → ⊥
          by_equal less at_m at_n h (inl e) =
              let two : Some n ≡ Some m = sym at_n ∙ ap (λ (i : ℕ). slice_get lists.nets i) e ∙ at_m in
              let same : n ≡ m = cc two in
              omega (arith, same, less)
          by_equal less at_m at_n h (inr ne) =
              omega (
                arith,
                less,
                places_order lists.nets rising (covered_place plan n) (covered_place plan m) n m
                    at_n at_m (lower h ne),
              )
            where
              lower : covered_place plan n ≤ covered_place plan m
                  → (covered_place plan n ≡ covered_place plan m → ⊥)
                  → covered_place plan n < covered_place plan m
              lower le ne = grind arith
  can_suspect (m ∷ n ∷ o ∷ nets) differ = tt

  -- each place whose fault explains the log is a suspect
  module _ (i : ℕ) (single : Single) (at : slice_get (places_of board) i ≡ Some (Some single)) (explains : Explains board single log) where
    is_single : IsSingle board single
    is_single = singles i single at

    place : PlaceOf lists i single
    place = place_of plan lists starts i single (ap (λ (l : List (Option Single)). slice_get l i) listed ∙ at)

    none_differ : AreDiffering board plan log [] → ⊥
    none_differ differ = unexplained single (λ x less n within. by_decided n within (decided n within) x less) explains is_single
      where
        by_decided : (n : ℕ) → n < length board.nets
            → ShowsOn board plan None log n ⊎ (ShowsOn board plan None log n → ⊥)
            → ShowsOn board plan None log n
        by_decided n within (inl show) = show
        by_decided n within (inr hidden) = absurd (contains_has [] n ((differ.exactly n).1 (within, hidden)))

    one_differs : (n : ℕ) → AreDiffering board plan log (n ∷ []) → Has (net_suspects lists n (covered_place plan n)) i
    one_differs n differ = by_place place
      where
        k : ℕ
        k = covered_place plan n

        k_is : slice_get lists.nets k ≡ Some n
        k_is = stands (n ∷ []) differ n (has_first n [])

        k_in : k < length lists.nets
        k_in = slice_get_within lists.nets k n k_is

        of_net : (first second : ℕ) → first ≡ first_net single → second ≡ second_net single → (n ≡ first) ⊎ (n ≡ second)
        of_net first second a b = by_case (is_of (n ∷ []) differ single is_single explains n (has_first n []))
          where
            by_case : (n ≡ first_net single) ⊎ (n ≡ second_net single) → (n ≡ first) ⊎ (n ≡ second)
            by_case (inl e) = inl (e ∙ sym a)
            by_case (inr e) = inr (e ∙ sym b)

        same_of : (net : ℕ) → (n ≡ net) ⊎ (n ≡ net) → n ≡ net
        same_of net (inl e) = e
        same_of net (inr e) = e

        by_short : (a b r x y : ℕ) → a < b → slice_get lists.nets a ≡ Some x
            → slice_get lists.nets b ≡ Some y → r < 4
            → i ≡ first_short lists + (4 * pair_number lists a b + r) → (n ≡ x) ⊎ (n ≡ y) →
            Has (net_suspects lists n k) i
        by_short a b r x y order ea eb less e (inl same) =
            let here : k ≡ a = stands_once lists.nets rising k a n x k_is ea same in
            has_later lists starts n k k_in b r i (omega (arith, order, here))
            (slice_get_within lists.nets b y eb) less
            (e ∙ ap (λ (j : ℕ). first_short lists + (4 * pair_number lists j b + r)) (sym here))
        by_short a b r x y order ea eb less e (inr same) =
            let here : k ≡ b = stands_once lists.nets rising k b n y k_is eb same in
            has_earlier lists starts n k k_in a r i (omega (arith, order, here)) less
            (e ∙ ap (λ (j : ℕ). first_short lists + (4 * pair_number lists a j + r)) (sym here))

        by_place : PlaceOf lists i single → Has (net_suspects lists n k) i
        by_place (at_stuck m r net value em less e is) =
            let same = same_of net (of_net net net (ap first_net is) (ap second_net is)) in
            let here : k ≡ m = stands_once lists.nets rising k m n net k_is em same in
            has_stuck lists starts n k k_in r i less (omega (arith, e, here))
        by_place (at_open m r pin value em less e is) =
            let same = same_of pin.net (of_net pin.net pin.net (ap first_net is) (ap second_net is)) in
            has_open lists starts n k k_in m r i pin em (sym same) less e
        by_place (at_short a b r x y kind order ea eb less e is) =
            by_short a b r x y order ea eb less e (of_net x y (ap first_net is) (ap second_net is))

    two_differ : (m n : ℕ) → AreDiffering board plan log (m ∷ n ∷ [])
        → Has (pair_suspects lists (covered_place plan m) (covered_place plan n)) i
    two_differ m n differ = by_place place
      where
        less : m < n
        less = differ.rising 0 1 0 (omega arith) (omega arith)

        m_is : slice_get lists.nets (covered_place plan m) ≡ Some m
        m_is = stands (m ∷ n ∷ []) differ m (has_first m (n ∷ []))

        n_is : slice_get lists.nets (covered_place plan n) ≡ Some n
        n_is = stands (m ∷ n ∷ []) differ n (has_contains (m ∷ n ∷ []) n (inr (inl refl)))

        of_m : (m ≡ first_net single) ⊎ (m ≡ second_net single)
        of_m = is_of (m ∷ n ∷ []) differ single is_single explains m (has_first m (n ∷ []))

        of_n : (n ≡ first_net single) ⊎ (n ≡ second_net single)
        of_n = is_of (m ∷ n ∷ []) differ single is_single explains n (has_contains (m ∷ n ∷ []) n (inr (inl refl)))

        one_net : (net : ℕ) → net ≡ first_net single → net ≡ second_net single
            → (m ≡ first_net single) ⊎ (m ≡ second_net single)
            → (n ≡ first_net single) ⊎ (n ≡ second_net single) → ⊥
        one_net net a b (inl e) (inl f) = omega (arith, less, a, b, e, f)
        one_net net a b (inl e) (inr f) = omega (arith, less, a, b, e, f)
        one_net net a b (inr e) (inl f) = omega (arith, less, a, b, e, f)
        one_net net a b (inr e) (inr f) = omega (arith, less, a, b, e, f)

        both_nets : (x y : ℕ) → x < y → x ≡ first_net single → y ≡ second_net single
            → (m ≡ first_net single) ⊎ (m ≡ second_net single)
            → (n ≡ first_net single) ⊎ (n ≡ second_net single) → (m ≡ x) × (n ≡ y)
        both_nets x y order a b (inl e) (inr f) = (e ∙ sym a, f ∙ sym b)
        both_nets x y order a b (inl e) (inl f) = absurd (omega (arith, less, e, f))
        both_nets x y order a b (inr e) (inl f) = absurd (omega (arith, less, order, a, b, e, f))
        both_nets x y order a b (inr e) (inr f) = absurd (omega (arith, less, e, f))

        by_place : PlaceOf lists i single → Has (pair_suspects lists (covered_place plan m) (covered_place plan n)) i
        by_place (at_stuck q r net value em l e is) = absurd (one_net net (ap first_net is) (ap second_net is) of_m of_n)
        by_place (at_open q r pin value em l e is) = absurd (one_net pin.net (ap first_net is) (ap second_net is) of_m of_n)
        by_place (at_short a b r x y kind order ea eb l e is) =
            let same = both_nets x y (places_order lists.nets rising a b x y ea eb order) (ap first_net is) (ap second_net is) of_m of_n in
            let low : covered_place plan m ≡ a = stands_once lists.nets rising (covered_place plan m) a m x m_is ea same.0 in
            let high : covered_place plan n ≡ b = stands_once lists.nets rising (covered_place plan n) b n y n_is eb same.1 in
            has_pair lists starts (covered_place plan m) (covered_place plan n) r i l
            (e ∙ ap (λ (j : ℕ). first_short lists + (4 * pair_number lists j b + r)) (sym low)
            ∙ ap
            (λ (j : ℕ). first_short lists +
            (4 * pair_number lists (covered_place plan m) j + r)) (sym high))

    more_differ : (m n o : ℕ) (nets : List ℕ) → AreDiffering board plan log (m ∷ n ∷ o ∷ nets) → ⊥
    more_differ m n o nets differ =
        no_room (differ.rising 0 1 0 (omega arith) (omega arith)) (differ.rising 1 2 0 (omega arith) (omega arith))
        (is_of (m ∷ n ∷ o ∷ nets) differ single is_single explains m (has_first m (n ∷ o ∷ nets)))
        (is_of (m ∷ n ∷ o ∷ nets) differ single is_single explains n (has_contains (m ∷ n ∷ o ∷ nets) n (inr (inl refl))))
        (is_of (m ∷ n ∷ o ∷ nets) differ single is_single explains o (has_contains (m ∷ n ∷ o ∷ nets) o (inr (inr (inl refl)))))
      where
        no_room : m < n → n < o → (m ≡ first_net single) ⊎ (m ≡ second_net single)
            → (n ≡ first_net single) ⊎ (n ≡ second_net single)
            → (o ≡ first_net single) ⊎ (o ≡ second_net single) → ⊥
        no_room mn after (inl a) (inl b) c = omega (arith, mn, a, b)
        no_room mn after (inr a) (inr b) c = omega (arith, mn, a, b)
        no_room mn after (inl a) (inr b) (inl c) = omega (arith, mn, after, a, c)
        no_room mn after (inl a) (inr b) (inr c) = omega (arith, after, b, c)
        no_room mn after (inr a) (inl b) (inl c) = omega (arith, after, b, c)
        no_room mn after (inr a) (inl b) (inr c) = omega (arith, mn, after, a, c)

    pub is_suspect : (nets : List ℕ) → AreDiffering board plan log nets → Has (suspects_of plan lists nets) i
    is_suspect [] differ = absurd (none_differ differ)
    is_suspect (n ∷ []) differ = one_differs n differ
    is_suspect (m ∷ n ∷ []) differ = two_differ m n differ
    is_suspect (m ∷ n ∷ o ∷ nets) differ = absurd (more_differ m n o nets differ)

  pub suspects_rise : (nets : List ℕ) → CanSuspect plan lists nets → InOrder (λ (x y : ℕ). x < y) (suspects_of plan lists nets)
  suspects_rise [] can = tt
  suspects_rise (n ∷ []) can = net_order lists starts n (covered_place plan n) can
  suspects_rise (m ∷ n ∷ []) can = pair_order lists starts (covered_place plan m) (covered_place plan n)
  suspects_rise (m ∷ n ∷ o ∷ nets) can = tt

  pub suspects_below : (nets : List ℕ) → CanSuspect plan lists nets → (i : ℕ) → Has (suspects_of plan lists nets) i → i < place_count lists
  suspects_below [] can i h = absurd h
  suspects_below (n ∷ []) can i h = net_below lists starts n (covered_place plan n) can i h
  suspects_below (m ∷ n ∷ []) can i h = pair_below lists starts (covered_place plan m) (covered_place plan n) can.0 can.1 i h
  suspects_below (m ∷ n ∷ o ∷ nets) can i h = absurd h

  -- each pin of net n among the tested pins from pin `from` on gives two suspects
  pins_counted : (n from count : ℕ) → from + count ≡ length lists.pins
      → length (flat_map (pin_suspects lists n) (range_with_len from count))
      ≡ 2 * count_by (λ (pin : PinRef). pin.net == n) (drop from lists.pins)
  pins_counted n from zero e =
      let whole : from ≡ length lists.pins = omega (arith, e) in
      sym
      (ap (λ (k : ℕ). 2 * count_by (λ (pin : PinRef). pin.net == n) (drop k lists.pins)) whole
      ∙ ap (λ (l : List PinRef). 2 * count_by (λ (pin : PinRef). pin.net == n) l)
      (drop_all (length lists.pins) lists.pins (omega arith)))
  pins_counted n from (suc count) e =
      let pin = item_there lists.pins from (omega (arith, e)) in
      let cut : drop from lists.pins ≡ (pin.0) ∷ drop (from + 1) lists.pins = cut_at (pin.0) pin.1 in
      length-append (pin_suspects lists n from) (flat_map (pin_suspects lists n) (range_with_len (from + 1) count))
      ∙ omega (
        arith,
        ap (λ (o : Option PinRef). length (cond (is_net n (pin_net o)) (two_from (first_open lists + 2 * from)) [])) pin.1,
        by_test ((pin.0).net == n),
        pins_counted n (from + 1) count (omega (arith, e)),
        ap (λ (l : List PinRef). count_by (λ (q : PinRef). q.net == n) l) cut,
        sum_by-cons (λ (q : PinRef). cond (q.net == n) 1 0) (pin.0) (drop (from + 1) lists.pins),
      )
    where
      by_test : (b : Bool) → length (cond b (two_from (first_open lists + 2 * from)) []) ≡ 2 * cond b 1 0
      by_test true = refl
      by_test false = refl

      cut_at : (pin : PinRef) → slice_get lists.pins from ≡ Some pin → drop from lists.pins ≡ pin ∷ drop (from + 1) lists.pins
      cut_at pin at =
          let next : suc from ≡ from + 1 = omega arith in
          drop-cons lists.pins from pin (slice_get_within lists.pins from pin at)
          ∙ ap (λ (q : PinRef). q ∷ drop (suc from) lists.pins) (get_or_from_slice_get lists.pins from pin pin at)
          ∙ ap (λ (k : ℕ). pin ∷ drop k lists.pins) next

  pairs_counted : (f : ℕ → ℕ) (from count : ℕ) → length (flat_map (λ a. four_from (f a)) (range_with_len from count)) ≡ 4 * count
  pairs_counted f from zero = refl
  pairs_counted f from (suc count) =
      omega (
        arith,
        length-append (four_from (f from))
            (flat_map (λ a. four_from (f a)) (range_with_len (from + 1) count)),
        pairs_counted f (from + 1) count,
      )

  pub suspects_counted : (nets : List ℕ) → CanSuspect plan lists nets → length (suspects_of plan lists nets) ≡ suspect_count lists nets
  suspects_counted [] can = refl
  suspects_counted (m ∷ n ∷ []) can = refl
  suspects_counted (m ∷ n ∷ o ∷ nets) can = refl
  suspects_counted (n ∷ []) can =
      let k : ℕ = covered_place plan n in
      let pins : List ℕ = flat_map (pin_suspects lists n) (range_with_len 0 (length lists.pins)) in
      let earlier : List ℕ = flat_map (λ a. pair_suspects lists a k) (range_with_len 0 k) in
      let later : List ℕ = flat_map (λ b. pair_suspects lists k b) (range_with_len (suc k) (length lists.nets - suc k)) in
      omega (
        arith,
        can,
        length-append (two_from (2 * k)) (pins ++ (earlier ++ later)),
        length-append pins (earlier ++ later),
        length-append earlier later,
        pins_counted n 0 (length lists.pins) (omega arith),
        pairs_counted (λ a. first_short lists + 4 * pair_number lists a k) 0 k,
        pairs_counted (λ b. first_short lists + 4 * pair_number lists k b) (suc k) (length lists.nets - suc k),
      )

  pub are_suspects : (nets : List ℕ) → AreDiffering board plan log nets → AreSuspects board plan lists log (suspects_of plan lists nets)
  are_suspects nets differ =
      let can = can_suspect nets differ in
      record {
        rising = order_pairs (λ (x y : ℕ). x < y) (suspects_of plan lists nets) (suspects_rise nets can);
        below = all_from_has (λ i. i < place_count lists) (suspects_of plan lists nets) (suspects_below nets can);
        complete = λ i single at explains. has_contains (suspects_of plan lists nets) i (is_suspect i single at explains nets differ);
        differing = nets;
        are_differing = differ;
        count_is = suspects_counted nets can;
      }

-- for a log of a board's test, the places that `suspects_of` gives for the differing nets are the suspects of the log
module _ (board : RawBoard) (rules : IsBoard board) (plan : PlanTables) (p : IsPlanOf board plan)
    (passes : plan.passes ≡ passes_of board) (log : List (List Bool))
    (rows : length log ≡ length plan.passes * plan.width) (bits : All (λ row. length row ≡ data_bits board) log)
    (compared : CompareRows (code_row board (passes_of board))
    (code_width (observed_count board (passes_of board))) (passes_of board)
    (compared_scans board (svf_row_scans board)))
    (shape : HasShape board (svf_row_scans board) log
    ↔ ((length log
    ≡ length (passes_of board) * code_width (observed_count board (passes_of board)))
    × All (λ row. length row ≡ data_bits board) log))
    (kept : ArePasses board plan.passes)
    (observed : (n : ℕ) (net : Net) → slice_get board.nets n ≡ Some net
    → is_observed board plan.passes net ≡ is_covered board net)
    (respond : (single : Single) → IsSingle board single
    → Explains board single log
    ↔ (HasShape board (svf_row_scans board) log
    × ShowsBits board (svf_row_scans board) (single_bit board single) log))
    (expect : IsExpected board (svf_row_scans board) log
    ↔ (HasShape board (svf_row_scans board) log
    × ShowsBits board (svf_row_scans board) (λ row place expected. expected) log))
    (none : (single : Single) → IsSingle board single → IsExpected board (svf_row_scans board) log → Explains board single log → ⊥)
    (lists : FaultLists) (universe : IsUniverse board lists) (starts : ArePairStarts (length lists.nets) lists.starts)
    (nets : List ℕ) (differ : AreDiffering board plan log nets) where
  nets_same : lists.nets ≡ coded_nets plan (length board.nets)
  nets_same = universe.nets ∙ sym (nets_are board rules plan p kept observed)

  nets_rise : InOrder (λ (x y : ℕ). x < y) lists.nets
  nets_rise =
      subst (λ (l : List ℕ). InOrder (λ (x y : ℕ). x < y) l) (sym universe.nets)
      (order_map (λ (x y : Numbered). x.0 < y.0) (λ (x y : ℕ). x < y) (λ (net : Numbered). net.0)
      (covered_nets board) (λ x y less. less) (covered_order board))

  there : (n : ℕ) → n < length board.nets → (ShowsOn board plan None log n → ⊥) → slice_get lists.nets (covered_place plan n) ≡ Some n
  there n within hidden =
      let net = item_there board.nets n within in
      ap (λ (l : List ℕ). slice_get l (covered_place plan n)) nets_same
      ∙ covered_there board rules plan p log n (net.0) net.1 (differing_observed board rules plan p log n (net.0) net.1 hidden)

  decided : (n : ℕ) → n < length board.nets → ShowsOn board plan None log n ⊎ (ShowsOn board plan None log n → ⊥)
  decided n within = by_others (differ.others n within)
    where
      by_others : Contains nets n ⊎ ShowsOn board plan None log n → ShowsOn board plan None log n ⊎ (ShowsOn board plan None log n → ⊥)
      by_others (inl has) = inr ((differ.exactly n).0 has).1
      by_others (inr shown) = inl shown

  pub all_suspects : AreSuspects board plan lists log (suspects_of plan lists nets)
  all_suspects =
      are_suspects board plan lists starts nets_rise log decided there
      (λ single show explains is. none single is
      ((expected_is board rules plan p passes log rows bits compared shape expect).1 show)
      explains)
      (λ single is explains. (explains_is board rules plan p passes log rows bits compared shape single is (respond single is)).0 explains)
      (listed_are board rules plan p kept lists universe) (place_single board rules) nets differ
