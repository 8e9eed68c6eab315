-- Lemmas about the list of a board's places and about the fault at each place. The possible single faults of a board are numbered, and the
-- number of a fault is its place.
use Rattle.std.proofs.Common.{◌≡◌, ◌⊎◌, inl, inr, ℕ, zero, suc, ◌+◌, ◌-◌, ◌*◌, ◌<◌, ◌≤◌, ◌==◌, Bool, true, false, cond, ◌&&◌, List, [], ◌∷◌, ◌++◌, length, map, get_or, Option, Some, None, refl, sym, ap, ◌∙◌, arith, length-append}
use Rattle.std.specs.Prelude.{slice_get, filter, filter_map, option_and_then, option_map}
use Rattle.std.specs.List.{flat_map}
use Rattle.std.proofs.lemmas.Bool.{and_parts, both_ways, cases_lt, false_from_ne_true}
use Rattle.std.proofs.lemmas.Nat.{mul-le}
use Rattle.std.proofs.lemmas.List.{length-map, get_or_append_left, get_or-append-add, get_or_past}
use Rattle.std.proofs.lemmas.List.Elements.{filter_map-append, filter-append}
use Rattle.std.proofs.lemmas.Option.{slice_get-map, slice_get_past, slice_get_within}
use Rattle.std.proofs.Math.Nat.{suc-mul}
use Rattle.lists.proofs.ListLemmas.{item_there}
use Rattle.board_defs.specs.Limits.{most_nets}
use Rattle.board_defs.specs.declared.board.Net.{Net}
use Rattle.board_defs.specs.declared.board.RawBoard.{RawBoard}
use Rattle.board_defs.specs.declared.board.PinRef.{PinRef}
use Rattle.board_defs.specs.declared.fault.Kind.{Kind}
use Rattle.board_defs.specs.declared.fault.Kind.TheVariants.{And, Or, First, Second}
use Rattle.board_defs.specs.declared.fault.Single.{Single}
use Rattle.board_defs.specs.declared.fault.Single.TheVariants.{StuckNet, OpenPin, Short}
use Rattle.board_defs.specs.Decided.{is_covered, are_paired, is_tested_driver, are_paired_at, any_below, are_compatible, place_drive}
use Rattle.board_defs.specs.Faults.{Numbered, numbered_nets, covered_nets, tested_pins, paired_nets, stuck_faults, open_faults, short_faults, kind_rank}
use Rattle.board_defs.specs.Passes.{pairs_within}
use Rattle.board_defs.proofs.Places.{below_place, below_at}
use Rattle.tap_defs.proofs.board.ScanPlaceLemmas.{front_at, rest_at}
use Rattle.plan_tables.specs.declared.tables.PlanTables.{PlanTables}
use Rattle.fault_sim.specs.declared.fault_lists.FaultLists.{FaultLists}
use Rattle.fault_sim.specs.inner.Tested.{paired_in}
use Rattle.fault_sim.specs.Laws.{PlacesAre}
use Rattle.fault_sim.specs.Places.{as_places, pair_places, stuck_places, open_places, short_places, number_places, listed_at, listed_places, place_count, where_observed}
use Rattle.fault_sim.specs.Starts.{pairs_before, ArePairStarts}

placed_faults : (faults : List Single) → filter_map (λ place. place) (as_places faults) ≡ faults
placed_faults [] = refl
placed_faults (fault ∷ faults) = ap (λ (l : List Single). fault ∷ l) (placed_faults faults)

flat_places : {X : Type 0} (g : X → List (Option Single)) (xs : List X)
    → filter_map (λ place. place) (flat_map g xs)
    ≡ flat_map (λ x. filter_map (λ place. place) (g x)) xs
flat_places g [] = refl
flat_places g (x ∷ xs) =
    filter_map-append (λ place. place) (g x) (flat_map g xs)
    ∙ ap (λ (l : List Single). filter_map (λ place. place) (g x) ++ l) (flat_places g xs)

flat_filter : {X : Type 0} (q : X → Bool) (f g : X → List Single)
    → ((x : X) → g x ≡ cond (q x) (f x) []) → (xs : List X)
    → flat_map g xs ≡ flat_map f (filter q xs)
flat_filter q f g same [] = refl
flat_filter {X} q f g same (x ∷ xs) = ap (λ (l : List Single). l ++ flat_map g xs) (same x) ∙ by_test (q x) (flat_filter q f g same xs)
  where
    by_test : (b : Bool) → flat_map g xs ≡ flat_map f (filter q xs)
        → cond b (f x) [] ++ flat_map g xs ≡ flat_map f (cond b (x ∷ filter q xs) (filter q xs))
    by_test true rest = ap (λ (l : List Single). f x ++ l) rest
    by_test false rest = rest

-- test q accepts a pair only if test c accepts both of its items; filtering the items by c first therefore loses no pair that q accepts
module _ {X : Type 0} (c : X → Bool) (q : X × X → Bool) (parts : (x y : X) → q (x, y) ≡ true → (c x ≡ true) × (c y ≡ true)) where
  second_covered : (x : X) (ys : List X)
      → filter q (map (λ y. let p : X × X = (x, y) in p) (filter c ys))
      ≡ filter q (map (λ y. let p : X × X = (x, y) in p) ys)
  second_covered x [] = refl
  second_covered x (y ∷ ys) = by_cover (second_covered x ys) (c y) refl
    where
      by_cover : filter q (map (λ y. let p : X × X = (x, y) in p) (filter c ys))
          ≡ filter q (map (λ y. let p : X × X = (x, y) in p) ys) → (b : Bool) → c y ≡ b →
          filter q (map (λ y. let p : X × X = (x, y) in p) (cond b (y ∷ filter c ys) (filter c ys)))
          ≡ cond (q (x, y)) ((x, y) ∷ filter q (map (λ y. let p : X × X = (x, y) in p) ys))
          (filter q (map (λ y. let p : X × X = (x, y) in p) ys))
      by_cover ih true e = ap (λ (l : List (X × X)). cond (q (x, y)) ((x, y) ∷ l) l) ih
      by_cover ih false e =
          let off : q (x, y) ≡ false = false_from_ne_true (q (x, y)) (λ on. both_ways (c y) e (parts x y on).1) in
          ih
          ∙ sym
          (ap
          (λ (b : Bool). cond b
          ((x, y) ∷ filter q (map (λ y. let p : X × X = (x, y) in p) ys))
          (filter q (map (λ y. let p : X × X = (x, y) in p) ys))) off)

  first_uncovered : (x : X) → c x ≡ false → (ys : List X) → filter q (map (λ y. let p : X × X = (x, y) in p) ys) ≡ []
  first_uncovered x e [] = refl
  first_uncovered x e (y ∷ ys) =
      let off : q (x, y) ≡ false = false_from_ne_true (q (x, y)) (λ on. both_ways (c x) e (parts x y on).0) in
      ap
      (λ (b : Bool). cond b ((x, y) ∷ filter q (map (λ y. let p : X × X = (x, y) in p) ys))
      (filter q (map (λ y. let p : X × X = (x, y) in p) ys))) off
      ∙ first_uncovered x e ys

  pub pairs_covered : (xs : List X) → filter q (pairs_within (filter c xs)) ≡ filter q (pairs_within xs)
  pairs_covered [] = refl
  pairs_covered (x ∷ xs) = by_cover (pairs_covered xs) (c x) refl
    where
      by_cover : filter q (pairs_within (filter c xs)) ≡ filter q (pairs_within xs) → (b : Bool) → c x ≡ b →
          filter q (pairs_within (cond b (x ∷ filter c xs) (filter c xs)))
          ≡ filter q (map (λ y. let p : X × X = (x, y) in p) xs ++ pairs_within xs)
      by_cover ih true e =
          filter-append q (map (λ y. let p : X × X = (x, y) in p) (filter c xs)) (pairs_within (filter c xs))
          ∙ ap (λ (l : List (X × X)). l ++ filter q (pairs_within (filter c xs))) (second_covered x xs)
          ∙ ap (λ (l : List (X × X)). filter q (map (λ y. let p : X × X = (x, y) in p) xs) ++ l) ih
          ∙ sym (filter-append q (map (λ y. let p : X × X = (x, y) in p) xs) (pairs_within xs))
      by_cover ih false e =
          ih
          ∙ sym (filter-append q (map (λ y. let p : X × X = (x, y) in p) xs) (pairs_within xs)
          ∙ ap (λ (l : List (X × X)). l ++ filter q (pairs_within xs)) (first_uncovered x e xs))

pub paired_covered : (board : RawBoard) (a b : Net) → are_paired board a b ≡ true
    → (is_covered board a ≡ true) × (is_covered board b ≡ true)
paired_covered board a b e =
    let i = below_place (length a.pins) (λ i. any_below (length b.pins) (are_paired_at board a b i)) e in
    let j = below_place (length b.pins) (are_paired_at board a b i.number) i.passes in
    let t = and_parts (is_tested_driver board a i.number && is_tested_driver board b j.number)
    (are_compatible board (place_drive board a i.number) (place_drive board b j.number))
    j.passes in
    let u = and_parts (is_tested_driver board a i.number) (is_tested_driver board b j.number) t.0 in (
      below_at (length a.pins) (is_tested_driver board a) i.number i.below u.0,
      below_at (length b.pins) (is_tested_driver board b) j.number j.below u.1,
    )

pub places_are : PlacesAre
places_are board =
    filter_map-append (λ place. place) (stuck_places board) (open_places board ++ short_places board)
    ∙ ap (λ (l : List Single). filter_map (λ place. place) (stuck_places board) ++ l)
    (filter_map-append (λ place. place) (open_places board) (short_places board))
    ∙ ap
    (λ (l : List Single). l
    ++ (filter_map (λ place. place) (open_places board)
    ++ filter_map (λ place. place) (short_places board)))
    (placed_faults (flat_map (λ net. stuck_faults net.0) (covered_nets board)))
    ∙ ap (λ (l : List Single). stuck ++ (l ++ filter_map (λ place. place) (short_places board)))
    (placed_faults (flat_map open_faults (tested_pins board)))
    ∙ ap (λ (l : List Single). stuck ++ (opens ++ l)) shorts_are
    ∙ sym (Rattle.std.proofs.Common.append_assoc stuck opens (flat_map (λ pair. short_faults pair.0.0 pair.1.0) (paired_nets board)))
  where
    Pair : Type 0
    Pair = Numbered × Numbered

    stuck : List Single
    stuck = flat_map (λ (net : Numbered). stuck_faults net.0) (covered_nets board)

    opens : List Single
    opens = flat_map open_faults (tested_pins board)

    q : Numbered × Numbered → Bool
    q pair = are_paired board pair.0.1 pair.1.1

    at_pair : (pair : Numbered × Numbered)
        → filter_map (λ place. place) (pair_places board pair)
        ≡ cond (q pair) (short_faults pair.0.0 pair.1.0) []
    at_pair pair = by_test (are_paired board pair.0.1 pair.1.1)
      where
        by_test : (b : Bool)
            → filter_map (λ place. place)
            (cond b (as_places (short_faults pair.0.0 pair.1.0))
            (None ∷ None ∷ None ∷ None ∷ [])) ≡ cond b (short_faults pair.0.0 pair.1.0) []
        by_test true = placed_faults (short_faults pair.0.0 pair.1.0)
        by_test false = refl

    shorts_are : filter_map (λ place. place) (short_places board) ≡ flat_map (λ pair. short_faults pair.0.0 pair.1.0) (paired_nets board)
    shorts_are =
        flat_places (pair_places board) (pairs_within (covered_nets board))
        ∙ flat_filter q (λ pair. short_faults pair.0.0 pair.1.0)
        (λ pair. filter_map (λ place. place) (pair_places board pair)) at_pair
        (pairs_within (covered_nets board))
        ∙ ap (λ (l : List (Numbered × Numbered)). flat_map (λ pair. short_faults pair.0.0 pair.1.0) l)
        (pairs_covered (λ (net : Numbered). is_covered board net.1) q (λ x y on. paired_covered board x.1 y.1 on) (numbered_nets board))

-- if f gives w items for each item of a list, item `m * w + r` of the joined lists is item r of the list for item m
pub flat_at : {X Y : Type 0} (f : X → List Y) (w : ℕ) → ((x : X) → length (f x) ≡ w)
    → (xs : List X) (m : ℕ) (x : X) → slice_get xs m ≡ Some x → (r i : ℕ) → r < w → i ≡ m * w + r →
    slice_get (flat_map f xs) i ≡ slice_get (f x) r
flat_at f w each [] m x e r i less at = cc e
flat_at {X} {Y} f w each (z ∷ xs) zero x e r i less at =
    let same : z ≡ x = cc e in
    let here : i ≡ r = omega (arith, at) in
    front_at (f z) (flat_map f xs) i (omega (arith, here, less, each z))
    ∙ ap (λ (y : X). slice_get (f y) i) same
    ∙ ap (λ (k : ℕ). slice_get (f x) k) here
flat_at f w each (z ∷ xs) (suc m) x e r i less at =
    rest_at (f z) (flat_map f xs) (m * w + r) i (omega (arith, at, each z, suc-mul m w))
    ∙ flat_at f w each xs m x e r (m * w + r) less refl

pub length-flat : {X Y : Type 0} (f : X → List Y) (w : ℕ) → ((x : X) → length (f x) ≡ w)
    → (xs : List X) → length (flat_map f xs) ≡ length xs * w
length-flat f w each [] = omega arith
length-flat f w each (x ∷ xs) = omega (arith, length-append (f x) (flat_map f xs), each x, length-flat f w each xs, suc-mul (length xs) w)

pub past_end : {X : Type 0} (xs : List X) (m : ℕ) → None ≡ slice_get xs m → length xs ≤ m
past_end xs m none = by_side (cases_lt m (length xs))
  where
    by_side : (m < length xs) ⊎ (length xs ≤ m) → length xs ≤ m
    by_side (inl less) = let item = item_there xs m less in let bad : None ≡ Some item.0 = none ∙ item.1 in cc bad
    by_side (inr past) = past

pub flat_past : {X Y : Type 0} (f : X → List Y) (w : ℕ) → ((x : X) → length (f x) ≡ w)
    → (xs : List X) (m i : ℕ) → None ≡ slice_get xs m → m * w ≤ i
    → slice_get (flat_map f xs) i ≡ None
flat_past f w each xs m i none low =
    slice_get_past (flat_map f xs) i
    (omega (
      arith,
      length-flat f w each xs,
      mul-le (length xs) w m w (past_end xs m none) (omega arith),
      low,
    ))

-- if a is less than b, the pair of items a and b has the index `pairs_before (length xs) a + b - (a + 1)` in the list of all pairs
pub pair_there : {X : Type 0} (xs : List X) (a b k : ℕ) (x y : X) → a < b → slice_get xs a ≡ Some x
    → slice_get xs b ≡ Some y → k + suc a ≡ pairs_before (length xs) a + b →
    slice_get (pairs_within xs) k ≡ Some (x, y)
pair_there [] a b k x y less ea eb at = cc ea
pair_there {X} (z ∷ xs) zero zero k x y less ea eb at = absurd (omega (arith, less))
pair_there {X} (z ∷ xs) zero (suc b) k x y less ea eb at =
    let same : z ≡ x = cc ea in
    let here : k ≡ b = omega (arith, at) in
    front_at (map (λ v. let p : X × X = (z, v) in p) xs) (pairs_within xs) k
    (omega (
      arith,
      here,
      slice_get_within xs b y eb,
      length-map xs (λ v. let p : X × X = (z, v) in p),
    ))
    ∙ slice_get-map (λ v. let p : X × X = (z, v) in p) xs k
    ∙ ap (λ (o : Option X). option_map (λ v. let p : X × X = (z, v) in p) o) (ap (λ (i : ℕ). slice_get xs i) here ∙ eb)
    ∙ ap (λ (v : X). let p : X × X = (v, y) in Some p) same
pair_there (z ∷ xs) (suc a) zero k x y less ea eb at = absurd (omega (arith, less))
pair_there {X} (z ∷ xs) (suc a) (suc b) k x y less ea eb at =
    rest_at (map (λ v. let p : X × X = (z, v) in p) xs) (pairs_within xs) (k - length xs) k
    (omega (arith, length-map xs (λ v. let p : X × X = (z, v) in p), enough))
    ∙ pair_there xs a b (k - length xs) x y (omega (arith, less)) ea eb (omega (arith, at, enough))
  where
    enough : length xs ≤ k
    enough = omega (arith, at, less)

pub length-pairs : {X : Type 0} (xs : List X) → length (pairs_within xs) ≡ pairs_before (length xs) (length xs)
length-pairs [] = refl
length-pairs {X} (x ∷ xs) =
    length-append (map (λ v. let p : X × X = (x, v) in p) xs) (pairs_within xs)
    ∙ omega (arith, length-map xs (λ v. let p : X × X = (x, v) in p), length-pairs xs)

-- net a has `nets - (a + 1)` pairs with later nets, so `pairs_before` rises by this number from a to a + 1
pub before_more : (nets a : ℕ) → a < nets → pairs_before nets (suc a) + suc a ≡ pairs_before nets a + nets
before_more zero a less = absurd (omega (arith, less))
before_more (suc nets) zero less = by_nets nets
  where
    by_nets : (n : ℕ) → pairs_before (suc n) 1 + 1 ≡ pairs_before (suc n) 0 + suc n
    by_nets zero = refl
    by_nets (suc n) = omega arith
before_more (suc nets) (suc a) less = omega (arith, before_more nets a (omega (arith, less)))

pub before_most : (nets a : ℕ) → pairs_before nets a ≤ nets * nets
before_most zero a = omega arith
before_most (suc nets) zero = omega arith
before_most (suc nets) (suc a) = omega (arith, before_most nets a)

square_most : (n : ℕ) → n ≤ most_nets → n * n ≤ most_nets * most_nets
square_most n few = mul-le n n most_nets most_nets few few

pub before_few : (nets a : ℕ) → nets ≤ most_nets → pairs_before nets a ≤ most_nets * most_nets
before_few nets a few = omega (arith, before_most nets a, square_most nets few)

pub start_few : (nets : ℕ) (starts : List ℕ) → ArePairStarts nets starts → nets ≤ most_nets
    → (a : ℕ) → get_or starts a 0 ≤ most_nets * most_nets
start_few nets starts are few a = by_side (cases_lt a (length starts))
  where
    by_side : (a < length starts) ⊎ (length starts ≤ a) → get_or starts a 0 ≤ most_nets * most_nets
    by_side (inl less) = omega (arith, are.each a (omega (arith, less, are.count)), before_few nets a few)
    by_side (inr past) = omega (arith, get_or_past starts a 0 past)

pub starts_more : (nets a : ℕ) (starts : List ℕ) (next : ℕ) → a < nets → length starts ≡ a + 1
    → ((k : ℕ) → k ≤ a → get_or starts k 0 ≡ pairs_before nets k) → next ≡ pairs_before nets (a + 1)
    →
    (k : ℕ) → k ≤ a + 1 → get_or (starts ++ next ∷ []) k 0 ≡ pairs_before nets k
starts_more nets a starts next less long each is k le = by_side (cases_lt k (a + 1))
  where
    by_side : (k < a + 1) ⊎ (a + 1 ≤ k) → get_or (starts ++ next ∷ []) k 0 ≡ pairs_before nets k
    by_side (inl below) = get_or_append_left starts (next ∷ []) 0 k (omega (arith, below, long)) ∙ each k (omega (arith, below))
    by_side (inr above) =
        let last : k ≡ length starts + 0 = omega (arith, le, above, long) in
        let here : a + 1 ≡ k = omega (arith, le, above) in
        ap (λ (i : ℕ). get_or (starts ++ next ∷ []) i 0) last
        ∙ get_or-append-add starts (next ∷ []) 0 0
        ∙ is ∙ ap (λ (i : ℕ). pairs_before nets i) here

pub next_start : (nets a start : ℕ) → a < nets → start ≡ pairs_before nets a → start + (nets - a - 1) ≡ pairs_before nets (a + 1)
next_start nets a start less e =
    let next : suc a ≡ a + 1 = omega arith in
    omega (arith, before_more nets a less, e, less, ap (λ (i : ℕ). pairs_before nets i) next)

-- if pair k is a pair of net `low` with a later net, the later net is `low + 1 + (k - start)`; `start` is the
-- index of the first such pair of net `low`
pub pair_within : (nets : ℕ) (starts s : List ℕ) → s ≡ starts → ArePairStarts nets starts
    → (low k start : ℕ) → low + 1 < length s → get_or s low 0 ≤ k → k < get_or s (low + 1) 0
    → start ≡ get_or s low 0 →
    (low + 1 + (k - start) < nets) × (k + suc low ≡ pairs_before nets low + (low + 1 + (k - start)))
pair_within nets starts s same are low k start within above below is =
    let rows : length s ≡ suc nets = ap (λ (l : List ℕ). length l) same ∙ are.count in
    let first : get_or s low 0
    ≡ pairs_before nets low = ap (λ (l : List ℕ). get_or l low 0) same
    ∙ are.each low (omega (arith, within, rows)) in
    let step : suc low ≡ low + 1 = omega arith in
    let next : get_or s (low + 1) 0
    ≡ pairs_before nets (low + 1) = ap (λ (l : List ℕ). get_or l (low + 1) 0) same
    ∙ are.each (low + 1) (omega (arith, within, rows)) in
    let more = before_more nets low (omega (arith, within, rows)) in
    let moved : pairs_before nets (suc low) ≡ pairs_before nets (low + 1) = ap (λ (i : ℕ). pairs_before nets i) step in
    (omega (arith, above, below, is, first, next, more, moved, within, rows), omega (arith, above, below, is, first, next, more, moved))

pub stuck_fault : (net r : ℕ) → r < 2 → slice_get (stuck_faults net) r ≡ Some (StuckNet net (r == 1))
stuck_fault net zero less = refl
stuck_fault net (suc zero) less = refl
stuck_fault net (suc (suc r)) less = absurd (omega (arith, less))

pub open_fault : (pin : PinRef) (r : ℕ) → r < 2 → slice_get (open_faults pin) r ≡ Some (OpenPin pin (r == 1))
open_fault pin zero less = refl
open_fault pin (suc zero) less = refl
open_fault pin (suc (suc r)) less = absurd (omega (arith, less))

pub short_fault : (a b r : ℕ) (kind : Kind) → kind_rank kind ≡ r → slice_get (short_faults a b) r ≡ Some (Short a b kind)
short_fault a b r And e = sym (ap (λ (i : ℕ). slice_get (short_faults a b) i) e)
short_fault a b r Or e = sym (ap (λ (i : ℕ). slice_get (short_faults a b) i) e)
short_fault a b r First e = sym (ap (λ (i : ℕ). slice_get (short_faults a b) i) e)
short_fault a b r Second e = sym (ap (λ (i : ℕ). slice_get (short_faults a b) i) e)

pub no_fault : (r : ℕ) → r < 4 → (let places : List (Option Single) = None ∷ None ∷ None ∷ None ∷ [] in slice_get places r ≡ Some None)
no_fault zero less = refl
no_fault (suc zero) less = refl
no_fault (suc (suc zero)) less = refl
no_fault (suc (suc (suc zero))) less = refl
no_fault (suc (suc (suc (suc r)))) less = absurd (omega (arith, less))

pub length-four : (plan : PlanTables) (pair : ℕ × ℕ) → length (number_places plan pair) ≡ 4
length-four plan pair = by_test (paired_in plan pair.0 pair.1)
  where
    by_test : (b : Bool) → length (cond b (as_places (short_faults pair.0 pair.1)) (None ∷ None ∷ None ∷ None ∷ [])) ≡ 4
    by_test true = refl
    by_test false = refl

-- the fault of a place, if there is such a place and it has a fault
abbrev pub at_once : Option (Option Single) → Option Single
at_once place = option_and_then (λ fault. fault) place

placed_there : (faults : List Single) (i : ℕ) → listed_at (as_places faults) i ≡ slice_get faults i
placed_there faults i = ap at_once (slice_get-map (λ f. Some f) faults i) ∙ by_fault (slice_get faults i)
  where
    by_fault : (o : Option Single) → at_once (option_map (λ f. Some f) o) ≡ o
    by_fault None = refl
    by_fault (Some fault) = refl

-- `where_observed` keeps every stuck fault, since `observes_fault` is true of it
stuck_observed : (plan : PlanTables) (nets : List ℕ) (i : ℕ)
    → where_observed plan (slice_get (flat_map stuck_faults nets) i)
    ≡ slice_get (flat_map stuck_faults nets) i
stuck_observed plan [] i = refl
stuck_observed plan (n ∷ nets) zero = refl
stuck_observed plan (n ∷ nets) (suc zero) = refl
stuck_observed plan (n ∷ nets) (suc (suc i)) = stuck_observed plan nets i

-- `where_observed` keeps every fault of an open pin, since `observes_fault` is true of it
open_observed : (plan : PlanTables) (pins : List PinRef) (i : ℕ)
    → where_observed plan (slice_get (flat_map open_faults pins) i)
    ≡ slice_get (flat_map open_faults pins) i
open_observed plan [] i = refl
open_observed plan (pin ∷ pins) zero = refl
open_observed plan (pin ∷ pins) (suc zero) = refl
open_observed plan (pin ∷ pins) (suc (suc i)) = open_observed plan pins i

pub short_there : (plan : PlanTables) (a b r : ℕ) (kind : Kind) → r < 4 → kind_rank kind ≡ r
    → at_once (slice_get (number_places plan (a, b)) r)
    ≡ where_observed plan (Some (Short a b kind))
short_there plan a b r kind less rank = by_test (paired_in plan a b)
  where
    by_test : (t : Bool)
        → at_once
        (slice_get (cond t (as_places (short_faults a b)) (None ∷ None ∷ None ∷ None ∷ [])) r)
        ≡ cond t (Some (Short a b kind)) None
    by_test true =
        ap at_once
        (slice_get-map (λ f. Some f) (short_faults a b) r
        ∙ ap (λ (o : Option Single). option_map (λ f. Some f) o) (short_fault a b r kind rank))
    by_test false = ap at_once (no_fault r less)

pub listed_there : (places : List (Option Single)) (i : ℕ) (fault : Option Single)
    → i < length places → fault ≡ listed_at places i → slice_get places i ≡ Some fault
listed_there places i fault less e = let place = item_there places i less in place.1 ∙ ap Some (sym (e ∙ ap at_once place.1))

-- the fault at each of the places that the lists of covered nets and tested pins give
module _ (plan : PlanTables) (lists : FaultLists) where
  abbrev stuck : List (Option Single)
  stuck = as_places (flat_map stuck_faults lists.nets)

  abbrev opens : List (Option Single)
  opens = as_places (flat_map open_faults lists.pins)

  abbrev shorts : List (Option Single)
  shorts = flat_map (number_places plan) (pairs_within lists.nets)

  pub stuck_length : length stuck ≡ 2 * length lists.nets
  stuck_length =
      length-map (flat_map stuck_faults lists.nets) (λ fault. Some fault)
      ∙ length-flat stuck_faults 2 (λ n. refl) lists.nets ∙ turned (length lists.nets)
    where
      turned : (n : ℕ) → n * 2 ≡ 2 * n
      turned n = omega arith

  pub opens_length : length opens ≡ 2 * length lists.pins
  opens_length =
      length-map (flat_map open_faults lists.pins) (λ fault. Some fault)
      ∙ length-flat open_faults 2 (λ pin. refl) lists.pins ∙ turned (length lists.pins)
    where
      turned : (n : ℕ) → n * 2 ≡ 2 * n
      turned n = omega arith

  pub listed_length : length (listed_places plan lists) ≡ place_count lists
  listed_length =
      omega (
        arith,
        length-append stuck (opens ++ shorts),
        length-append opens shorts,
        stuck_length,
        opens_length,
        length-flat (number_places plan) 4 (length-four plan) (pairs_within lists.nets),
        length-pairs lists.nets,
      )

  pub stuck_listed : (i : ℕ) (fault : Option Single) → i < 2 * length lists.nets
      → fault ≡ slice_get (flat_map stuck_faults lists.nets) i
      → listed_at (listed_places plan lists) i ≡ where_observed plan fault
  stuck_listed i fault less e =
      ap at_once (front_at stuck (opens ++ shorts) i (omega (arith, less, stuck_length)))
      ∙ placed_there (flat_map stuck_faults lists.nets) i
      ∙ sym (ap (λ (o : Option Single). where_observed plan o) e ∙ stuck_observed plan lists.nets i)

  pub open_listed : (i k : ℕ) (fault : Option Single) → i ≡ 2 * length lists.nets + k
      → k < 2 * length lists.pins → fault ≡ slice_get (flat_map open_faults lists.pins) k
      → listed_at (listed_places plan lists) i ≡ where_observed plan fault
  open_listed i k fault at less e =
      ap at_once
      (rest_at stuck (opens ++ shorts) k i (omega (arith, at, stuck_length))
      ∙ front_at opens shorts k (omega (arith, less, opens_length)))
      ∙ placed_there (flat_map open_faults lists.pins) k
      ∙ sym (ap (λ (o : Option Single). where_observed plan o) e ∙ open_observed plan lists.pins k)

  pub short_listed : (i k : ℕ) (fault : Option Single)
      → i ≡ 2 * length lists.nets + (2 * length lists.pins + k)
      → listed_at shorts k ≡ where_observed plan fault
      → listed_at (listed_places plan lists) i ≡ where_observed plan fault
  short_listed i k fault at e =
      ap at_once
      (rest_at stuck (opens ++ shorts) (2 * length lists.pins + k) i
      (omega (arith, at, stuck_length))
      ∙ rest_at opens shorts k (2 * length lists.pins + k) (omega (arith, opens_length))) ∙ e
