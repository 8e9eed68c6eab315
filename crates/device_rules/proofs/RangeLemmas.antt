-- Lemmas about the place of an index in a range.
use Rattle.std.proofs.Common.{◌≡◌, ℕ, zero, suc, ◌+◌, ◌-◌, ◌<◌, ◌≤◌, ◌==◌, Bool, true, false, ◌&&◌, cond, ◌⊎◌, inl, inr, List, [], ◌∷◌, length, map, get_or, reverse, Option, Some, None, refl, sym, ap, subst, ◌∙◌, arith, nat_le}
use Rattle.std.specs.Prelude.{is_none, option_map, if◌then◌else◌}
use Rattle.std.specs.List.{position_from, range_with_len}
use Rattle.std.proofs.lemmas.Bool.Decides.{nat_tests}
use Rattle.std.proofs.lemmas.List.FromFn.{length-range_with_len, get_or-range_with_len}
use Rattle.std.proofs.Math.Bool.{and-false}
use Rattle.std.proofs.lemmas.List.{get_or-map, length-map, reverse-append, length-reverse}
use Rattle.std.proofs.lemmas.Bool.{eq-eqb, cases_lt}
use Rattle.lists.proofs.Booleans.{gt-eqb, lt-eqb}
use Rattle.lists.proofs.ListLemmas.{range_with_len_more}
use Rattle.board_defs.specs.DeviceRules.{range_indexes, is_on}
use Rattle.bsdl_parser.specs.declared.entity.Range.{Range}
use Rattle.device_rules.specs.Ports.{range_in_order, width, indexes, has_index}
use Rattle.device_rules.specs.inner.Index.{index_place, index_at}

-- the first place of the index `i` in a list of indexes, or None if the list lacks it; places are numbered
-- from `n` on
abbrev place_of : ℕ → ℕ → List ℕ → Option ℕ
place_of i n indexes = position_from (is_on i) n (map Some indexes)

hit : (i n a : ℕ) (indexes : List ℕ) → (a == i) ≡ true → place_of i n (a ∷ indexes) ≡ Some n
hit i n a indexes e = ap (λ b. cond b (Some n) (place_of i (n + 1) indexes)) e

miss : (i n a : ℕ) (indexes : List ℕ) → (a == i) ≡ false → place_of i n (a ∷ indexes) ≡ place_of i (n + 1) indexes
miss i n a indexes e = ap (λ b. cond b (Some n) (place_of i (n + 1) indexes)) e

here_or_above : (i a : ℕ) → a ≤ i → (a ≡ i) ⊎ (a + 1 ≤ i)
here_or_above i a le = grind arith

up_step : (i n a count : ℕ)
    → (a + 1 ≤ i
    → place_of i (n + 1) (range_with_len (a + 1) count) ≡ Some ((n + 1) + (i - (a + 1))))
    → (a ≡ i) ⊎ (a + 1 ≤ i) → place_of i n (range_with_len a (suc count)) ≡ Some (n + (i - a))
up_step i n a count later (inl e) =
    let here : n ≡ n + (i - a) = omega (arith, e) in
    hit i n a (range_with_len (a + 1) count) (eq-eqb a i e) ∙ ap Some here
up_step i n a count later (inr above) =
    let sums : (n + 1) + (i - (a + 1)) ≡ n + (i - a) = omega (arith, above) in
    let less : a < i = omega (arith, above) in
    miss i n a (range_with_len (a + 1) count) (lt-eqb a i less) ∙ later above ∙ ap Some sums

up_hit : (i n a count : ℕ) → a ≤ i → i < a + count → place_of i n (range_with_len a count) ≡ Some (n + (i - a))
up_hit i n a zero low high = absurd (omega arith)
up_hit i n a (suc count) low high =
    up_step i n a count (λ above. up_hit i (n + 1) (a + 1) count above (omega arith))
    (here_or_above i a low)

up_above : (i n a count : ℕ) → i < a → place_of i n (range_with_len a count) ≡ None
up_above i n a zero less = refl
up_above i n a (suc count) less =
    miss i n a (range_with_len (a + 1) count) (gt-eqb a i less)
    ∙ up_above i (n + 1) (a + 1) count (omega arith)

up_below : (i n a count : ℕ) → a + count ≤ i → place_of i n (range_with_len a count) ≡ None
up_below i n a zero le = refl
up_below i n a (suc count) le =
    let less : a < i = omega arith in
    miss i n a (range_with_len (a + 1) count) (lt-eqb a i less) ∙ up_below i (n + 1) (a + 1) count (omega arith)

-- the `count` indexes from `a` on, in descending order
abbrev down : ℕ → ℕ → List ℕ
down a zero = []
down a (suc count) = (a + count) ∷ down a count

down_is : (a count : ℕ) → reverse (range_with_len a count) ≡ down a count
down_is a zero = refl
down_is a (suc count) =
    ap reverse (range_with_len_more a count)
    ∙ reverse-append (range_with_len a count) ((a + count) ∷ [])
    ∙ ap (λ ns. (a + count) ∷ ns) (down_is a count)

here_or_below : (i top : ℕ) → i ≤ top → (top ≡ i) ⊎ (i < top)
here_or_below i top le = grind arith

down_step : (i n a count : ℕ)
    → (i < a + count → place_of i (n + 1) (down a count) ≡ Some ((n + 1) + (a + count - 1 - i)))
    → (a + count ≡ i) ⊎ (i < a + count)
    → place_of i n (down a (suc count)) ≡ Some (n + (a + suc count - 1 - i))
down_step i n a count later (inl e) =
    let here : n ≡ n + (a + suc count - 1 - i) = omega (arith, e) in
    hit i n (a + count) (down a count) (eq-eqb (a + count) i e) ∙ ap Some here
down_step i n a count later (inr below) =
    let sums : (n + 1) + (a + count - 1 - i) ≡ n + (a + suc count - 1 - i) = omega (arith, below) in
    miss i n (a + count) (down a count) (gt-eqb (a + count) i below) ∙ later below ∙ ap Some sums

down_hit : (i n a count : ℕ) → a ≤ i → i < a + count → place_of i n (down a count) ≡ Some (n + (a + count - 1 - i))
down_hit i n a zero low high = absurd (omega arith)
down_hit i n a (suc count) low high =
    down_step i n a count (λ below. down_hit i (n + 1) a count low below)
    (here_or_below i (a + count) (omega arith))

down_above : (i n a count : ℕ) → i < a → place_of i n (down a count) ≡ None
down_above i n a zero less = refl
down_above i n a (suc count) less =
    let under : i < a + count = omega arith in
    miss i n (a + count) (down a count) (gt-eqb (a + count) i under) ∙ down_above i (n + 1) a count less

down_below : (i n a count : ℕ) → a + count ≤ i → place_of i n (down a count) ≡ None
down_below i n a zero le = refl
down_below i n a (suc count) le =
    let over : a + count < i = omega arith in
    miss i n (a + count) (down a count) (lt-eqb (a + count) i over) ∙ down_below i (n + 1) a count (omega arith)

-- each bit of a vector has an index
none_at : (n : ℕ) (indexes : List ℕ) → position_from is_none n (map Some indexes) ≡ None
none_at n [] = refl
none_at n (i ∷ indexes) = none_at (n + 1) indexes

is_le : (a b : ℕ) → a ≤ b → nat_le a b ≡ true
is_le a b le = grind (arith, nat_tests)

is_not_le : (a b : ℕ) → b < a → nat_le a b ≡ false
is_not_le a b less = grind (arith, nat_tests)

le_of : (a b : ℕ) → nat_le a b ≡ true → a ≤ b
le_of a b e = grind (arith, nat_tests)

indexes_up : (left right : ℕ) → left ≤ right → range_indexes left right ≡ range_with_len left (right - left + 1)
indexes_up left right le =
    ap
    (λ b. cond b (range_with_len left (right - left + 1))
    (reverse (range_with_len right (left - right + 1)))) (is_le left right le)

indexes_down : (left right : ℕ) → right < left → range_indexes left right ≡ down right (left - right + 1)
indexes_down left right less =
    ap
    (λ b. cond b (range_with_len left (right - left + 1))
    (reverse (range_with_len right (left - right + 1)))) (is_not_le left right less)
    ∙ down_is right (left - right + 1)

inside : (low high i : ℕ) → low ≤ i → i ≤ high → (nat_le low i && nat_le i high) ≡ true
inside low high i a b = grind (arith, nat_tests)

under : (low high i : ℕ) → i < low → (nat_le low i && nat_le i high) ≡ false
under low high i a = ap (λ b. b && nat_le i high) (is_not_le low i a)

over : (low high i : ℕ) → high < i → (nat_le low i && nat_le i high) ≡ false
over low high i a = ap (λ b. nat_le low i && b) (is_not_le i high a) ∙ and-false (nat_le low i)

abbrev Inside : ℕ → ℕ → ℕ → Type 0
Inside low high i = (low ≤ i) × (i ≤ high)

where_is : (low high i : ℕ) → (i < low) ⊎ (Inside low high i ⊎ (high < i))
where_is low high i = by_low (cases_lt i low)
  where
    by_low : (i < low) ⊎ (low ≤ i) → (i < low) ⊎ (Inside low high i ⊎ (high < i))
    by_low (inl a) = inl a
    by_low (inr a) = elim (cases_lt high i) [ inl b ↦ inr (inr b) | inr b ↦ inr (inl (a, b)) ]

found_in : (start k : ℕ) (test : Bool) (o : Option ℕ) → test ≡ true → o ≡ Some (start + k)
    → o ≡ option_map (λ j. start + j) (if test then Some k else None)
found_in start k test o e f = rw e f

found_out : (start k : ℕ) (test : Bool) (o : Option ℕ) → test ≡ false → o ≡ None
    → o ≡ option_map (λ j. start + j) (if test then Some k else None)
found_out start k test o e f = rw e f

found_up : (left right i start : ℕ) → left ≤ right
    → place_of i start (range_indexes left right)
    ≡ option_map (λ k. start + k)
    (if nat_le left i && nat_le i right then Some (i - left) else None)
found_up left right i start le =
    let is = indexes_up left right le in
    elim (where_is left right i) [
      | inl a ↦ found_out start (i - left) _ _ (under left right i a)
          (ap (place_of i start) is ∙ up_above i start left (right - left + 1) a)
      | inr (inl (a, b)) ↦ found_in start (i - left) _ _ (inside left right i a b)
          (ap (place_of i start) is ∙ up_hit i start left (right - left + 1) a (omega arith))
      | inr (inr b) ↦ found_out start (i - left) _ _ (over left right i b)
          (ap (place_of i start) is ∙ up_below i start left (right - left + 1) (omega arith))
    ]

found_under : (left right i start : ℕ) → right < left
    → place_of i start (range_indexes left right)
    ≡ option_map (λ k. start + k)
    (if nat_le right i && nat_le i left then Some (left - i) else None)
found_under left right i start less =
    let is = indexes_down left right less in
    elim (where_is right left i) [
      | inl a ↦ found_out start (left - i) _ _ (under right left i a)
          (ap (place_of i start) is ∙ down_above i start right (left - right + 1) a)
      | inr (inl (a, b)) ↦ found_in start (left - i) _ _ (inside right left i a b)
          (ap (place_of i start) is ∙ down_hit i start right (left - right + 1) a (omega arith)
          ∙ ap Some (sums a b))
      | inr (inr b) ↦ found_out start (left - i) _ _ (over right left i b)
          (ap (place_of i start) is ∙ down_below i start right (left - right + 1) (omega arith))
    ]
  where
    sums : right ≤ i → i ≤ left → start + (right + (left - right + 1) - 1 - i) ≡ start + (left - i)
    sums a b = omega (arith, less)

found_down : (left right i start : ℕ) → right ≤ left
    → place_of i start (range_indexes left right)
    ≡ option_map (λ k. start + k)
    (if nat_le right i && nat_le i left then Some (left - i) else None)
found_down left right i start le = elim (here_or_below right left le) [ inl e ↦ one e | inr less ↦ found_under left right i start less ]
  where
    at_one : (low i start : ℕ)
        → place_of i start (range_indexes low low)
        ≡ option_map (λ k. start + k)
        (if nat_le low i && nat_le i low then Some (low - i) else None)
    at_one low i start =
        let is = indexes_up low low (omega arith) in
        elim (where_is low low i) [
          | inl a ↦ found_out start (low - i) _ _ (under low low i a) (ap (place_of i start) is ∙ up_above i start low (low - low + 1) a)
          | inr (inl (a, b)) ↦ found_in start (low - i) _ _ (inside low low i a b)
              (ap (place_of i start) is ∙ up_hit i start low (low - low + 1) a (omega arith)
              ∙ ap Some (omega arith))
          | inr (inr b) ↦ found_out start (low - i) _ _ (over low low i b)
              (ap (place_of i start) is ∙ up_below i start low (low - low + 1) (omega arith))
        ]

    one : left ≡ right
        → place_of i start (range_indexes left right)
        ≡ option_map (λ k. start + k)
        (if nat_le right i && nat_le i left then Some (left - i) else None)
    one e =
        subst
        (λ r. place_of i start (range_indexes left r)
        ≡ option_map (λ k. start + k)
        (if nat_le r i && nat_le i left then Some (left - i) else None)) e (at_one left i start)

found_by : (left right i start : ℕ) (up : Bool) → (if up then nat_le left right else nat_le right left) ≡ true
    → place_of i start (range_indexes left right)
    ≡ option_map (λ k. start + k)
    (if up then (if nat_le left i && nat_le i right then Some (i - left) else None)
    else (if nat_le right i && nat_le i left then Some (left - i) else None))
found_by left right i start true e = found_up left right i start (le_of left right e)
found_by left right i start false e = found_down left right i start (le_of right left e)

pub place_found : (range : Option Range) (at : Option ℕ) (start : ℕ) → range_in_order range ≡ true
    → position_from (has_index at) start (indexes range)
    ≡ option_map (λ k. start + k) (index_place range at)
place_found None None start e = let sums : start ≡ start + 0 = omega arith in ap Some sums
place_found None (Some i) start e = refl
place_found (Some range) None start e = none_at start (range_indexes range.left range.right)
place_found (Some range) (Some i) start e = found_by range.left range.right i start range.up e

length_up : (left right : ℕ) → left ≤ right → length (range_indexes left right) ≡ right - left + 1
length_up left right le = ap length (indexes_up left right le) ∙ length-range_with_len left (right - left + 1)

length_down : (left right : ℕ) → right ≤ left → length (range_indexes left right) ≡ left - right + 1
length_down left right le = elim (here_or_below right left le) [
  | inl e ↦ length_up left right (omega (arith, e)) ∙ (omega (arith, e))
  | inr less ↦ ap length (indexes_down left right less)
      ∙ sym (ap length (down_is right (left - right + 1)))
      ∙ length-reverse (range_with_len right (left - right + 1))
      ∙ length-range_with_len right (left - right + 1)
]

length_by : (left right : ℕ) (up : Bool)
    → (if up then nat_le left right else nat_le right left) ≡ true
    → length (range_indexes left right) ≡ (if up then right - left else left - right) + 1
length_by left right true e = length_up left right (le_of left right e)
length_by left right false e = length_down left right (le_of right left e)

pub length_indexes : (range : Option Range) → range_in_order range ≡ true → length (indexes range) ≡ width range
length_indexes None e = refl
length_indexes (Some range) e = length-map (range_indexes range.left range.right) Some ∙ length_by range.left range.right range.up e

within_by : (left right i : ℕ) (up : Bool) (k : ℕ)
    → (if up then (if nat_le left i && nat_le i right then Some (i - left) else None)
    else (if nat_le right i && nat_le i left then Some (left - i) else None)) ≡ Some k
    → k < (if up then right - left else left - right) + 1
within_by left right i true k e = by_test (nat_le left i) (nat_le i right) refl refl e
  where
    by_test : (a b : Bool) → nat_le left i ≡ a → nat_le i right ≡ b
        → (if a && b then Some (i - left) else None) ≡ Some k → k < right - left + 1
    by_test true true f g h =
        let is : i - left ≡ k = cc h in
        let low = le_of left i f in
        let high = le_of i right g in
        omega (arith, is, low, high)
    by_test true false f g h = cc h
    by_test false b f g h = cc h
within_by left right i false k e = by_test (nat_le right i) (nat_le i left) refl refl e
  where
    by_test : (a b : Bool) → nat_le right i ≡ a → nat_le i left ≡ b
        → (if a && b then Some (left - i) else None) ≡ Some k → k < left - right + 1
    by_test true true f g h =
        let is : left - i ≡ k = cc h in
        let low = le_of right i f in
        let high = le_of i left g in
        omega (arith, is, low, high)
    by_test true false f g h = cc h
    by_test false b f g h = cc h

pub place_within : (range : Option Range) (at : Option ℕ) (k : ℕ) → index_place range at ≡ Some k → k < width range
place_within None None k e = let is : 0 ≡ k = cc e in omega (arith, is)
place_within None (Some i) k e = cc e
place_within (Some range) None k e = cc e
place_within (Some range) (Some i) k e = within_by range.left range.right i range.up k e

get_down : (a count k : ℕ) → k < count → get_or (down a count) k 0 ≡ a + count - 1 - k
get_down a zero k less = absurd (omega arith)
get_down a (suc count) zero less = omega arith
get_down a (suc count) (suc k) less = get_down a count k (omega arith) ∙ (omega arith)

up_index : (left right k : ℕ) → left ≤ right → k < right - left + 1 → get_or (range_indexes left right) k 0 ≡ left + k
up_index left right k le less =
    ap (λ ixs. get_or ixs k 0) (indexes_up left right le)
    ∙ get_or-range_with_len left (right - left + 1) k 0 less

down_index : (left right k : ℕ) → right ≤ left → k < left - right + 1 → get_or (range_indexes left right) k 0 ≡ left - k
down_index left right k le less = elim (here_or_below right left le) [
  | inl e ↦ up_index left right k (omega (arith, e)) (omega (arith, e, less)) ∙ (omega (arith, e, less))
  | inr under ↦ ap (λ ixs. get_or ixs k 0) (indexes_down left right under)
      ∙ get_down right (left - right + 1) k less ∙ (omega (arith, under, less))
]

index_by : (left right k : ℕ) (up : Bool)
    → (if up then nat_le left right else nat_le right left) ≡ true
    → k < (if up then right - left else left - right) + 1
    → get_or (map Some (range_indexes left right)) k None ≡ Some (if up then left + k else left - k)
index_by left right k true e less =
    let within : k < length (range_indexes left right) = omega (arith, less, length_up left right (le_of left right e)) in
    get_or-map Some (range_indexes left right) k 0 None within ∙ ap Some (up_index left right k (le_of left right e) less)
index_by left right k false e less =
    let within : k < length (range_indexes left right) = omega (arith, less, length_down left right (le_of right left e)) in
    get_or-map Some (range_indexes left right) k 0 None within ∙ ap Some (down_index left right k (le_of right left e) less)

pub index_found : (range : Option Range) (k : ℕ) → range_in_order range ≡ true → k < width range
    → get_or (indexes range) k None ≡ index_at range k
index_found None zero e less = refl
index_found None (suc k) e less = absurd (omega arith)
index_found (Some range) k e less = index_by range.left range.right k range.up e less
