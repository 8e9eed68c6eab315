-- Lemmas which say that the suspects are in ascending order, and that every place whose fault explains the log is among them.
use Rattle.std.proofs.Common.{◌≡◌, ◌⊎◌, inl, inr, ℕ, zero, suc, ◌+◌, ◌-◌, ◌*◌, ◌<◌, ◌≤◌, Bool, true, false, cond, List, [], ◌∷◌, ◌++◌, length, map, Option, Some, None, refl, sym, ap, ◌∙◌, subst, arith}
use Rattle.std.specs.Prelude.{slice_get, option_map}
use Rattle.std.specs.List.{flat_map, range_with_len}
use Rattle.std.proofs.lemmas.Bool.{cases_lt, cases_eq, eq-eqb}
use Rattle.std.proofs.lemmas.List.{length-map}
use Rattle.std.proofs.lemmas.Option.{slice_get_within, slice_get-map}
use Rattle.board_defs.specs.declared.board.PinRef.{PinRef}
use Rattle.board_defs.specs.Passes.{pairs_within}
use Rattle.board_defs.proofs.Members.{Has, has_left, has_right, has_append, has_flat_map, flat_map_has, has_range, range_has}
use Rattle.board_defs.proofs.Ordered.{InOrder, order_append, order_flat_map, order_range}
use Rattle.fault_sim.specs.declared.fault_lists.FaultLists.{FaultLists}
use Rattle.fault_sim.specs.Places.{place_count}
use Rattle.fault_sim.specs.Starts.{pairs_before, ArePairStarts}
use Rattle.fault_sim.specs.inner.Suspects.{two_from, four_from, first_open, first_short, pair_number, pair_suspects, pin_net, is_net, pin_suspects, net_suspects}
use Rattle.fault_sim.proofs.PlaceLemmas.{before_more}

two_has : (first i : ℕ) → Has (two_from first) i → (first ≤ i) × (i < first + 2)
two_has first i (inl e) = (omega (arith, e), omega (arith, e))
two_has first i (inr (inl e)) = (omega (arith, e), omega (arith, e))
two_has first i (inr (inr none)) = absurd none

four_has : (first i : ℕ) → Has (four_from first) i → (first ≤ i) × (i < first + 4)
four_has first i (inl e) = (omega (arith, e), omega (arith, e))
four_has first i (inr (inl e)) = (omega (arith, e), omega (arith, e))
four_has first i (inr (inr (inl e))) = (omega (arith, e), omega (arith, e))
four_has first i (inr (inr (inr (inl e)))) = (omega (arith, e), omega (arith, e))
four_has first i (inr (inr (inr (inr none)))) = absurd none

has_two : (first r i : ℕ) → r < 2 → i ≡ first + r → Has (two_from first) i
has_two first zero i less e = inl (omega (arith, e))
has_two first (suc zero) i less e = inr (inl (omega (arith, e)))
has_two first (suc (suc r)) i less e = absurd (omega (arith, less))

has_four : (first r i : ℕ) → r < 4 → i ≡ first + r → Has (four_from first) i
has_four first zero i less e = inl (omega (arith, e))
has_four first (suc zero) i less e = inr (inl (omega (arith, e)))
has_four first (suc (suc zero)) i less e = inr (inr (inl (omega (arith, e))))
has_four first (suc (suc (suc zero))) i less e = inr (inr (inr (inl (omega (arith, e)))))
has_four first (suc (suc (suc (suc r)))) i less e = absurd (omega (arith, less))

abbrev Rises : ℕ → ℕ → Type 0
Rises i j = i < j

two_order : (first : ℕ) → InOrder Rises (two_from first)
two_order first = (λ y h. second y h, (λ y none. absurd none, tt))
  where
    second : (y : ℕ) → Has ((first + 1) ∷ []) y → first < y
    second y (inl e) = omega (arith, e)
    second y (inr none) = absurd none

four_order : (first : ℕ) → InOrder Rises (four_from first)
four_order first = (λ y h. after_first y h, (λ y h. after_second y h, (λ y h. after_third y h, (λ y none. absurd none, tt))))
  where
    after_third : (y : ℕ) → Has ((first + 3) ∷ []) y → first + 2 < y
    after_third y (inl e) = omega (arith, e)
    after_third y (inr none) = absurd none

    after_second : (y : ℕ) → Has ((first + 2) ∷ (first + 3) ∷ []) y → first + 1 < y
    after_second y (inl e) = omega (arith, e)
    after_second y (inr (inl e)) = omega (arith, e)
    after_second y (inr (inr none)) = absurd none

    after_first : (y : ℕ) → Has ((first + 1) ∷ (first + 2) ∷ (first + 3) ∷ []) y → first < y
    after_first y (inl e) = omega (arith, e)
    after_first y (inr (inl e)) = omega (arith, e)
    after_first y (inr (inr (inl e))) = omega (arith, e)
    after_first y (inr (inr (inr none))) = absurd none

pub before_rises : (nets a b : ℕ) → a ≤ b → b ≤ nets → pairs_before nets a ≤ pairs_before nets b
before_rises nets a zero le within = let e : a ≡ 0 = omega (arith, le) in omega (arith, ap (λ (i : ℕ). pairs_before nets i) e)
before_rises nets a (suc b) le within = by_side (cases_eq a (suc b)) (λ below. before_rises nets a b below (omega (arith, within)))
  where
    by_side : (a ≡ suc b) ⊎ (a ≡ suc b → ⊥) → (a ≤ b → pairs_before nets a ≤ pairs_before nets b)
        → pairs_before nets a ≤ pairs_before nets (suc b)
    by_side (inl e) ih = omega (arith, ap (λ (i : ℕ). pairs_before nets i) e)
    by_side (inr differ) ih =
        let below : a ≤ b = lower differ in
        omega (arith, ih below, before_more nets b (omega (arith, within)), within)
      where
        lower : (a ≡ suc b → ⊥) → a ≤ b
        lower ne = grind arith

-- `p` is pair k of the list `xs`: its items are the items at places `low` and `high`, and `low` is less than `high`
pub record PairAt {X : Type 0} (xs : List X) (k : ℕ) (p : X × X) : Type 0 where
  pub low : ℕ
  pub high : ℕ
  pub order : low < high
  pub low_is : slice_get xs low ≡ Some p.0
  pub high_is : slice_get xs high ≡ Some p.1
  pub number_is : k + suc low ≡ pairs_before (length xs) low + high

pub pair_at : {X : Type 0} (xs : List X) (k : ℕ) (p : X × X) → slice_get (pairs_within xs) k ≡ Some p → PairAt xs k p
pair_at [] k p e = cc e
pair_at {X} (x ∷ xs) k p e = by_side (cases_lt k (length xs)) (λ i h. pair_at xs i p h)
  where
    firsts : List (X × X)
    firsts = map (λ v. let q : X × X = (x, v) in q) xs

    long : length firsts ≡ length xs
    long = length-map xs (λ v. let q : X × X = (x, v) in q)

    by_item : (o : Option X) → slice_get xs k ≡ o → option_map (λ v. let q : X × X = (x, v) in q) o ≡ Some p → PairAt (x ∷ xs) k p
    by_item None at h = cc h
    by_item (Some y) at h =
        let same : (let q : X × X = (x, y) in q) ≡ p = cc h in
        record {
          low = 0;
          high = suc k;
          order = omega arith;
          low_is = ap (λ (q : X × X). Some (q.0)) same;
          high_is = at ∙ ap (λ (q : X × X). Some (q.1)) same;
          number_is = omega arith;
        }

    by_side : (k < length xs) ⊎ (length xs ≤ k) → ((i : ℕ) → slice_get (pairs_within xs) i ≡ Some p → PairAt xs i p) → PairAt (x ∷ xs) k p
    by_side (inl below) ih =
        by_item (slice_get xs k) refl
        (sym (slice_get-map (λ v. let q : X × X = (x, v) in q) xs k)
        ∙ sym (Rattle.tap_defs.proofs.board.ScanPlaceLemmas.front_at firsts (pairs_within xs) k (omega (arith, below, long))) ∙ e)
    by_side (inr above) ih =
        let r = ih (k - length xs)
        (sym
        (Rattle.tap_defs.proofs.board.ScanPlaceLemmas.rest_at firsts (pairs_within xs)
        (k - length xs) k (omega (arith, above, long))) ∙ e) in
        record {
          low = suc r.low;
          high = suc r.high;
          order = omega (arith, r.order);
          low_is = r.low_is;
          high_is = r.high_is;
          number_is = omega (arith, r.number_is, above);
        }

module _ (lists : FaultLists) (starts : ArePairStarts (length lists.nets) lists.starts) where
  abbrev nets : ℕ
  nets = length lists.nets

  -- if a is less than b, the index of the pair of nets a and b is at least `pairs_before nets a` and less than `pairs_before nets (a + 1)`
  module _ (a b : ℕ) (order : a < b) (within : b < nets) where
    number_is : pair_number lists a b ≡ pairs_before nets a + (b - suc a)
    number_is = ap (λ (n : ℕ). n + (b - suc a)) (starts.each a (omega (arith, order, within)))

    pub number_low : pairs_before nets a ≤ pair_number lists a b
    number_low = omega (arith, number_is)

    pub number_high : pair_number lists a b < pairs_before nets (suc a)
    number_high = omega (arith, number_is, before_more nets a (omega (arith, order, within)), order, within)

  numbers_rise : (a b c d : ℕ) → a < b → b < nets → c < d → d < nets → a < c → pair_number lists a b < pair_number lists c d
  numbers_rise a b c d ab b_in cd d_in ac =
      omega (
        arith,
        number_high a b ab b_in,
        before_rises nets (suc a) c (omega (arith, ac)) (omega (arith, cd, d_in)),
        number_low c d cd d_in,
      )

  same_rise : (a b d : ℕ) → a < b → b < d → pair_number lists a b < pair_number lists a d
  same_rise a b d ab bd = omega (arith, ab, bd)

  pub number_below : (a b : ℕ) → a < b → b < nets → pair_number lists a b < pairs_before nets nets
  number_below a b ab b_in = omega (arith, number_high a b ab b_in, before_rises nets (suc a) nets (omega (arith, ab, b_in)) (omega arith))

  -- if only net n differs, the suspects are in ascending order and are places of the board
  module _ (n k : ℕ) (k_in : k < nets) where
    abbrev pins : List ℕ
    pins = flat_map (pin_suspects lists n) (range_with_len 0 (length lists.pins))

    abbrev earlier : List ℕ
    earlier = flat_map (λ a. pair_suspects lists a k) (range_with_len 0 k)

    abbrev later : List ℕ
    later = flat_map (λ b. pair_suspects lists k b) (range_with_len (suc k) (nets - suc k))

    pin_has : (m i : ℕ) → Has (pin_suspects lists n m) i → (first_open lists + 2 * m ≤ i) × (i < first_open lists + 2 * m + 2)
    pin_has m i h = by_test (is_net n (pin_net (slice_get lists.pins m))) h
      where
        by_test : (b : Bool) → Has (cond b (two_from (first_open lists + 2 * m)) []) i
            → (first_open lists + 2 * m ≤ i) × (i < first_open lists + 2 * m + 2)
        by_test true h = two_has (first_open lists + 2 * m) i h
        by_test false h = absurd h

    pins_within : (i : ℕ) → Has pins i → (first_open lists ≤ i) × (i < first_short lists)
    pins_within i h =
        let r = flat_map_has (pin_suspects lists n) (range_with_len 0 (length lists.pins)) i h in
        let m = range_has 0 (length lists.pins) r.0 r.1 in
        let w = pin_has r.0 i r.2 in
        (omega (arith, w.0), omega (arith, w.1, m.1))

    earlier_has : (i : ℕ) → Has earlier i → (a : ℕ) × (a < k) × Has (pair_suspects lists a k) i
    earlier_has i h =
        let r = flat_map_has (λ a. pair_suspects lists a k) (range_with_len 0 k) i h in
        let m = range_has 0 k r.0 r.1 in
        (r.0, omega (arith, m.1), r.2)

    later_has : (i : ℕ) → Has later i → (b : ℕ) × (k < b) × (b < nets) × Has (pair_suspects lists k b) i
    later_has i h =
        let r = flat_map_has (λ b. pair_suspects lists k b) (range_with_len (suc k) (nets - suc k)) i h in
        let m = range_has (suc k) (nets - suc k) r.0 r.1 in
        (r.0, omega (arith, m.0), omega (arith, m.1, k_in), r.2)

    pins_order : InOrder Rises pins
    pins_order =
        order_flat_map (λ (x y : ℕ). x < y) Rises (pin_suspects lists n)
        (range_with_len 0 (length lists.pins)) (order_range 0 (length lists.pins))
        (λ m h. by_test m (is_net n (pin_net (slice_get lists.pins m))))
        (λ x z less a b ha hb. omega (arith, less, (pin_has x a ha).1, (pin_has z b hb).0))
      where
        by_test : (m : ℕ) (b : Bool) → InOrder Rises (cond b (two_from (first_open lists + 2 * m)) [])
        by_test m true = two_order (first_open lists + 2 * m)
        by_test m false = tt

    abbrev place_of : ℕ → ℕ → ℕ
    place_of a b = first_short lists + 4 * pair_number lists a b

    earlier_order : InOrder Rises earlier
    earlier_order = each 0 k (omega arith)
      where
        each : (from count : ℕ) → from + count ≤ k → InOrder Rises (flat_map (λ a. pair_suspects lists a k) (range_with_len from count))
        each from zero le = tt
        each from (suc count) le =
            order_append Rises (pair_suspects lists from k)
            (flat_map (λ a. pair_suspects lists a k) (range_with_len (from + 1) count))
            (four_order (place_of from k)) (each (from + 1) count (omega (arith, le)))
            (λ i j hi hj.
            let r = flat_map_has (λ a. pair_suspects lists a k) (range_with_len (from + 1) count) j hj in
            let m = range_has (from + 1) count r.0 r.1 in
            omega (
              arith,
              (four_has (place_of from k) i hi).1,
              (four_has (place_of r.0 k) j r.2).0,
              numbers_rise from k r.0 k (omega (arith, le)) k_in (omega (arith, m.1, le)) k_in (omega (arith, m.0)),
            ))

    later_order : InOrder Rises later
    later_order = each (suc k) (nets - suc k) (omega arith)
      where
        each : (from count : ℕ) → suc k ≤ from → InOrder Rises (flat_map (λ b. pair_suspects lists k b) (range_with_len from count))
        each from zero le = tt
        each from (suc count) le =
            order_append Rises (pair_suspects lists k from)
            (flat_map (λ b. pair_suspects lists k b) (range_with_len (from + 1) count))
            (four_order (place_of k from)) (each (from + 1) count (omega (arith, le)))
            (λ i j hi hj.
            let r = flat_map_has (λ b. pair_suspects lists k b) (range_with_len (from + 1) count) j hj in
            let m = range_has (from + 1) count r.0 r.1 in
            omega (
              arith,
              (four_has (place_of k from) i hi).1,
              (four_has (place_of k r.0) j r.2).0,
              same_rise k from r.0 (omega (arith, le)) (omega (arith, m.0)),
            ))

    pub net_order : InOrder Rises (net_suspects lists n k)
    net_order =
        order_append Rises (two_from (2 * k)) (pins ++ (earlier ++ later)) (two_order (2 * k))
        (order_append Rises pins (earlier ++ later) pins_order
        (order_append Rises earlier later earlier_order later_order
        (λ i j hi hj.
        let a = earlier_has i hi in
        let b = later_has j hj in
        omega (
          arith,
          (four_has (place_of a.0 k) i a.2).1,
          (four_has (place_of k b.0) j b.3).0,
          numbers_rise a.0 k k b.0 a.1 k_in b.1 b.2 a.1,
        )))
        (λ i j hi hj. omega (arith, (pins_within i hi).1, shorts_above j hj)))
        (λ i j hi hj. omega (arith, (two_has (2 * k) i hi).1, k_in, rest_above j hj))
      where
        by_part : (j : ℕ) → Has earlier j ⊎ Has later j → first_short lists ≤ j
        by_part j (inl h) = let a = earlier_has j h in omega (arith, (four_has (place_of a.0 k) j a.2).0)
        by_part j (inr h) = let b = later_has j h in omega (arith, (four_has (place_of k b.0) j b.3).0)

        shorts_above : (j : ℕ) → Has (earlier ++ later) j → first_short lists ≤ j
        shorts_above j h = by_part j (has_append earlier later j h)

        by_rest : (j : ℕ) → Has pins j ⊎ Has (earlier ++ later) j → first_open lists ≤ j
        by_rest j (inl h) = (pins_within j h).0
        by_rest j (inr h) = omega (arith, shorts_above j h)

        rest_above : (j : ℕ) → Has (pins ++ (earlier ++ later)) j → first_open lists ≤ j
        rest_above j h = by_rest j (has_append pins (earlier ++ later) j h)

    pub net_below : (i : ℕ) → Has (net_suspects lists n k) i → i < place_count lists
    net_below i h = by_stuck (has_append (two_from (2 * k)) (pins ++ (earlier ++ later)) i h)
      where
        by_short : Has earlier i ⊎ Has later i → i < place_count lists
        by_short (inl h) = let a = earlier_has i h in omega (arith, (four_has (place_of a.0 k) i a.2).1, number_below a.0 k a.1 k_in)
        by_short (inr h) = let b = later_has i h in omega (arith, (four_has (place_of k b.0) i b.3).1, number_below k b.0 b.1 b.2)

        by_open : Has pins i ⊎ Has (earlier ++ later) i → i < place_count lists
        by_open (inl h) = omega (arith, (pins_within i h).1)
        by_open (inr h) = by_short (has_append earlier later i h)

        by_stuck : Has (two_from (2 * k)) i ⊎ Has (pins ++ (earlier ++ later)) i → i < place_count lists
        by_stuck (inl h) = omega (arith, (two_has (2 * k) i h).1, k_in)
        by_stuck (inr h) = by_open (has_append pins (earlier ++ later) i h)

    pub has_stuck : (r i : ℕ) → r < 2 → i ≡ 2 * k + r → Has (net_suspects lists n k) i
    has_stuck r i less e = has_left (two_from (2 * k)) (pins ++ (earlier ++ later)) i (has_two (2 * k) r i less e)

    pub has_open : (m r i : ℕ) (pin : PinRef) → slice_get lists.pins m ≡ Some pin → pin.net ≡ n
        → r < 2 → i ≡ first_open lists + (2 * m + r) → Has (net_suspects lists n k) i
    has_open m r i pin at same less e =
        has_right (two_from (2 * k)) (pins ++ (earlier ++ later)) i
        (has_left pins (earlier ++ later) i
        (has_flat_map (pin_suspects lists n) (range_with_len 0 (length lists.pins)) m i
        (has_range 0 (length lists.pins) m (omega arith) (omega (arith, slice_get_within lists.pins m pin at)))
        (subst (λ (b : Bool). Has (cond b (two_from (first_open lists + 2 * m)) []) i)
        (sym (ap (λ (o : Option PinRef). is_net n (pin_net o)) at ∙ eq-eqb pin.net n same))
        (has_two (first_open lists + 2 * m) r i less (omega (arith, e))))))

    pub has_earlier : (a r i : ℕ) → a < k → r < 4 → i ≡ first_short lists + (4 * pair_number lists a k + r) → Has (net_suspects lists n k) i
    has_earlier a r i below less e =
        has_right (two_from (2 * k)) (pins ++ (earlier ++ later)) i
        (has_right pins (earlier ++ later) i
        (has_left earlier later i
        (has_flat_map (λ c. pair_suspects lists c k) (range_with_len 0 k) a i (has_range 0 k a (omega arith) (omega (arith, below)))
        (has_four (place_of a k) r i less (omega (arith, e))))))

    pub has_later : (b r i : ℕ) → k < b → b < nets → r < 4
        → i ≡ first_short lists + (4 * pair_number lists k b + r) → Has (net_suspects lists n k) i
    has_later b r i above within less e =
        has_right (two_from (2 * k)) (pins ++ (earlier ++ later)) i
        (has_right pins (earlier ++ later) i
        (has_right earlier later i
        (has_flat_map (λ c. pair_suspects lists k c) (range_with_len (suc k) (nets - suc k)) b i
        (has_range (suc k) (nets - suc k) b (omega (arith, above))
        (omega (arith, within, above)))
        (has_four (place_of k b) r i less (omega (arith, e))))))

  pub pair_order : (a b : ℕ) → InOrder Rises (pair_suspects lists a b)
  pair_order a b = four_order (first_short lists + 4 * pair_number lists a b)

  pub pair_below : (a b : ℕ) → a < b → b < nets → (i : ℕ) → Has (pair_suspects lists a b) i → i < place_count lists
  pair_below a b order within i h =
      omega (
        arith,
        (four_has (first_short lists + 4 * pair_number lists a b) i h).1,
        number_below a b order within,
      )

  pub has_pair : (a b r i : ℕ) → r < 4 → i ≡ first_short lists + (4 * pair_number lists a b + r) → Has (pair_suspects lists a b) i
  has_pair a b r i less e = has_four (first_short lists + 4 * pair_number lists a b) r i less (omega (arith, e))
