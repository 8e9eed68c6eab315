-- Lemmas about the labels that a log gives the walk nets, and about the groups of nets with equal labels. A net's label is the place, in
-- the list of walk nets, of the first walk net whose 1 the net reads.
use Rattle.std.proofs.Common.{◌≡◌, ◌≢◌, ◌⊎◌, inl, inr, ℕ, zero, suc, ◌+◌, ◌<◌, ◌≤◌, ◌==◌, Bool, true, false, cond, ◌&&◌, List, [], ◌∷◌, ◌++◌, length, take, map, get_or, Option, Some, None, Decides, refl, sym, ◌∙◌, ap, subst, arith, nat_le}
use Rattle.std.specs.Prelude.{slice_get, All, Contains, option_map}
use Rattle.std.specs.List.{flat_map, range_with_len}
use Rattle.std.specs.Cmp.{both_ways as same_answer}
use Rattle.std.proofs.lemmas.Bool.{cases_eq, cases_lt, eqb-true, eq-eqb, leb-true, le-leb}
use Rattle.std.proofs.lemmas.Bool.Decides.{Decides-like, Decides-and}
use Rattle.std.proofs.lemmas.Grind.{flat_map-append}
use Rattle.std.proofs.lemmas.List.{length-map, append-nil}
use Rattle.std.proofs.lemmas.Option.{slice_get_within, slice_get-get_or, slice_get-map, get_or_from_slice_get}
use Rattle.lists.proofs.ListLemmas.{range_with_len_more}
use Rattle.board_defs.specs.declared.board.RawBoard.{RawBoard}
use Rattle.board_defs.specs.Pins.{is_same}
use Rattle.board_defs.proofs.Members.{Has, has_at, has_contains, contains_has, has_flat_map, flat_map_has, has_range, all_has, all_from_has}
use Rattle.board_defs.proofs.Ordered.{InOrder, order_pairs, order_flat_map, order_range, pairs_order}
use Rattle.board_defs.proofs.Places.{all_from}
use Rattle.board_defs.proofs.SameBits.{same_of_is_same, is_same_of_same}
use Rattle.response_log.specs.LogRows.{bit_in}
use Rattle.tap_defs.proofs.chain.ListLemmas.{Rises}
use Rattle.walk_test.specs.declared.tables.NetCells.{NetCells}
use Rattle.walk_test.specs.WalkTest.{walk_nets}
use Rattle.walk_test.specs.Groups.{Rise, least_of, AreGroups}
use Rattle.walk_test.specs.inner.Reading.{are_joined, first_one, label_of, net_shows, ShowsLabelsIn, ShowsLabels, members, group_at, groups_by}
use Rattle.walk_test.proofs.GroupLemmas.{least_has, least_le, Before, AreOrdered, Together, joined_cases, joined_self, joined_in}

pub first_low : (log : List (List Bool)) (at j : ℕ) → bit_in log j at ≡ true → first_one log at ≤ j
first_low [] at j e = cc e
first_low (row ∷ log) at zero e =
    let here : first_one (row ∷ log) at ≡ 0 = ap (λ (b : Bool). cond b 0 (suc (first_one log at))) e in
    omega (arith, here)
first_low (row ∷ log) at (suc j) e = by_test (get_or row at false) (first_low log at j e)
  where
    by_test : (b : Bool) → first_one log at ≤ j → cond b 0 (suc (first_one log at)) ≤ suc j
    by_test true low = omega arith
    by_test false low = omega (arith, low)

pub first_holds : (log : List (List Bool)) (at : ℕ) → first_one log at < length log → bit_in log (first_one log at) at ≡ true
first_holds [] at less = absurd (omega (arith, less))
first_holds (row ∷ log) at less = by_test (get_or row at false) refl (first_holds log at) less
  where
    by_test : (b : Bool) → get_or row at false ≡ b
        → (first_one log at < length log → bit_in log (first_one log at) at ≡ true)
        → cond b 0 (suc (first_one log at)) < length (row ∷ log) →
        bit_in (row ∷ log) (cond b 0 (suc (first_one log at))) at ≡ true
    by_test true e rest h = e
    by_test false e rest h = rest (omega (arith, h))

pub first_same : (log : List (List Bool)) (p q : ℕ)
    → ((j : ℕ) → j < length log → bit_in log j p ≡ bit_in log j q)
    → first_one log p ≡ first_one log q
first_same [] p q same = refl
first_same (row ∷ log) p q same =
    let rest : first_one log p ≡ first_one log q = first_same log p q (λ j less. same (suc j) (omega (arith, less))) in
    ap (λ (b : Bool). cond b 0 (suc (first_one log p))) (same 0 (omega arith)) ∙ ap (λ (k : ℕ). cond (get_or row q false) 0 (suc k)) rest

pub first_here : (log : List (List Bool)) (at i : ℕ) → i < length log → bit_in log i at ≡ true
    → ((j : ℕ) → j < i → bit_in log j at ≡ false) → first_one log at ≡ i
first_here log at i less on off = by_side (cases_lt (first_one log at) i)
  where
    low : first_one log at ≤ i
    low = first_low log at i on

    by_side : (first_one log at < i) ⊎ (i ≤ first_one log at) → first_one log at ≡ i
    by_side (inl before) =
        let bad : true
        ≡ false = sym (first_holds log at (omega (arith, before, less)))
        ∙ off (first_one log at) before in
        cc bad
    by_side (inr past) = omega (arith, low, past)

pub first_none : (log : List (List Bool)) (at : ℕ) → ((j : ℕ) → j < length log → bit_in log j at ≡ false) → first_one log at ≡ length log
first_none [] at off = refl
first_none (row ∷ log) at off =
    let rest : first_one log at ≡ length log = first_none log at (λ j less. off (suc j) (omega (arith, less))) in
    ap (λ (b : Bool). cond b 0 (suc (first_one log at))) (off 0 (omega arith)) ∙ ap (λ (k : ℕ). suc k) rest

pub label_is : (log : List (List Bool)) (cells : List NetCells) (i : ℕ) (c : NetCells)
    → slice_get cells i ≡ Some c → slice_get (map (label_of log) cells) i ≡ Some (label_of log c)
label_is log cells i c e = slice_get-map (label_of log) cells i ∙ ap (λ (o : Option NetCells). option_map (label_of log) o) e

pub first_compared : (c : NetCells) → 0 < length c.compared → Has c.compared (get_or c.compared 0 0)
first_compared c some = has_at c.compared 0 (get_or c.compared 0 0) (slice_get-get_or c.compared 0 0 some)

-- a log with at least one row for each net; each net has a compared cell
module _ (log : List (List Bool)) (cells : List NetCells) (long : length cells ≤ length log)
    (some : (i : ℕ) (c : NetCells) → slice_get cells i ≡ Some c → 0 < length c.compared) where
  abbrev log_labels : List ℕ
  log_labels = map (label_of log) cells

  -- In each row, each compared cell reads 1 if and only if its net has the same label as the net of the row.
  -- This condition is equivalent to `ShowsLabels`.
  abbrev EachShows : Type 0
  EachShows =
      (j i p : ℕ) (c : NetCells) → j < length cells → slice_get cells i ≡ Some c → Has c.compared p
      → bit_in log j p ≡ (get_or log_labels i 0 == get_or log_labels j 0)

  pub each_shows : ShowsLabels log log_labels cells → EachShows
  each_shows shows j i p c less e has =
      same_of_is_same (bit_in log j p) (get_or log_labels i 0 == get_or log_labels j 0)
      (all_has (λ at. is_same (bit_in log j at) (get_or log_labels i 0 == get_or log_labels j 0)) c.compared p (shows j less i c e) has)

  pub shows_each : EachShows → ShowsLabels log log_labels cells
  shows_each each j less i c e =
      all_from (λ at. is_same (bit_in log j at) (get_or log_labels i 0 == get_or log_labels j 0)) c.compared
      (λ k p f. is_same_of_same (bit_in log j p) (get_or log_labels i 0 == get_or log_labels j 0)
      (each j i p c less e (has_at c.compared k p f)))

  -- If the log satisfies `ShowsLabels`, the label of a net is the place of the first net with this label.
  pub own_label : ShowsLabels log log_labels cells → (i k : ℕ) → slice_get log_labels i ≡ Some k
      → (k ≤ i) × (slice_get log_labels k ≡ Some k)
  own_label shows i k e =
      let below : i < length cells = omega (arith, slice_get_within log_labels i k e, length-map cells (label_of log)) in
      let none : NetCells = record { driver = 0; compared = [] } in
      let c : NetCells = get_or cells i none in
      let at : slice_get cells i ≡ Some c = slice_get-get_or cells i none below in
      let p : ℕ = get_or c.compared 0 0 in
      let has : Has c.compared p = first_compared c (some i c at) in
      let two : Some (first_one log p) ≡ Some k = sym (label_is log cells i c at) ∙ e in
      let label : first_one log p ≡ k = cc two in
      let mine : get_or log_labels i 0 ≡ k = get_or_from_slice_get log_labels i k 0 e in
      let on : bit_in log i p
      ≡ true = each_shows shows i i p c below at has
      ∙ eq-eqb (get_or log_labels i 0) (get_or log_labels i 0) refl in
      let low : k ≤ i = omega (arith, first_low log p i on, label) in
      let first : bit_in log (first_one log p) p ≡ true = first_holds log p (omega (arith, label, low, below, long)) in
      let row : bit_in log k p ≡ true = ap (λ (j : ℕ). bit_in log j p) (sym label) ∙ first in
      let within : k < length cells = omega (arith, low, below) in
      let same : get_or log_labels i 0
      ≡ get_or log_labels k 0 = eqb-true (get_or log_labels i 0) (get_or log_labels k 0)
      (sym (each_shows shows k i p c within at has) ∙ row) in
      let in_labels : k < length log_labels = omega (arith, within, length-map cells (label_of log)) in
      (low, slice_get-get_or log_labels k 0 in_labels ∙ ap (λ (l : ℕ). Some l) (sym same ∙ mine))

-- there is a boolean that is true if and only if the statement holds
abbrev pub IsDecided : Type 0 → Type 0
IsDecided P = (t : Bool) × Decides t P

pub decided_below : (P : ℕ → Type 0) → ((j : ℕ) → IsDecided (P j)) → (n : ℕ) → IsDecided ((j : ℕ) → j < n → P j)
decided_below P each zero = (true, (λ e j less. absurd (omega (arith, less)), λ h. refl))
decided_below P each (suc n) =
    let rest = decided_below P each n in
    let last = each n in (
      rest.0 && last.0,
      Decides-like (rest.0 && last.0) together
          (λ h. (λ j less. h j (omega (arith, less)), h n (omega arith)))
          (Decides-and rest.0 last.0 rest.1 last.1),
    )
  where
    together : ((j : ℕ) → j < n → P j) × P n → (j : ℕ) → j < suc n → P j
    together h j less = by_side (cases_lt j n)
      where
        by_side : (j < n) ⊎ (n ≤ j) → P j
        by_side (inl before) = h.0 j before
        by_side (inr past) = let same : n ≡ j = omega (arith, less, past) in subst P same h.1

pub shows_decided : (log : List (List Bool)) (labels : List ℕ) (cells : List NetCells) → IsDecided (ShowsLabels log labels cells)
shows_decided log labels cells = decided_below (ShowsLabelsIn log labels cells) in_row (length cells)
  where
    Shows : ℕ → ℕ → Type 0
    Shows j i = (c : NetCells) → slice_get cells i ≡ Some c → net_shows log labels j i c ≡ true

    by_net : (j i : ℕ) (o : Option NetCells) → slice_get cells i ≡ o → IsDecided (Shows j i)
    by_net j i None e = (true, (λ t c f. let bad : None ≡ Some c = sym e ∙ f in cc bad, λ h. refl))
    by_net j i (Some c) e = (
      net_shows log labels j i c,
      (
        λ t d f. let two : Some c ≡ Some d = sym e ∙ f in
            let same : c ≡ d = cc two in
            subst (λ (x : NetCells). net_shows log labels j i x ≡ true) same t,
        λ h. h c e,
      ),
    )

    in_row : (j : ℕ) → IsDecided (ShowsLabelsIn log labels cells j)
    in_row j =
        let all = decided_below (Shows j) (λ i. by_net j i (slice_get cells i) refl) (length cells) in
        (all.0, Decides-like all.0 (λ h i c e. h i (slice_get_within cells i c e) c e) (λ h i less c e. h i c e) all.1)

pub place_order : (xs : List ℕ) → Rises xs → (i j a b : ℕ) → slice_get xs i ≡ Some a → slice_get xs j ≡ Some b → i < j → a < b
place_order [] rise i j a b e f less = cc e
place_order (x ∷ xs) rise zero zero a b e f less = absurd (omega (arith, less))
place_order (x ∷ xs) rise zero (suc j) a b e f less = let same : x ≡ a = cc e in omega (arith, same, rise.0 b (has_at xs j b f))
place_order (x ∷ xs) rise (suc i) zero a b e f less = absurd (omega (arith, less))
place_order (x ∷ xs) rise (suc i) (suc j) a b e f less = place_order xs rise.1 i j a b e f (omega (arith, less))

pub place_same : (xs : List ℕ) → Rises xs → (i j n : ℕ) → slice_get xs i ≡ Some n → slice_get xs j ≡ Some n → i ≡ j
place_same xs rise i j n e f = by_case (cases_lt i j) (cases_lt j i)
  where
    by_case : (i < j) ⊎ (j ≤ i) → (j < i) ⊎ (i ≤ j) → i ≡ j
    by_case (inl less) k = let bad : n < n = place_order xs rise i j n n e f less in absurd (omega (arith, bad))
    by_case (inr low) (inl less) = let bad : n < n = place_order xs rise j i n n f e less in absurd (omega (arith, bad))
    by_case (inr low) (inr high) = omega (arith, low, high)

-- net n is in `nets`, and `labels` has label k at the same place
abbrev pub Labelled : List ℕ → List ℕ → ℕ → ℕ → Type 0
Labelled nets labels k n = (i : ℕ) × (slice_get nets i ≡ Some n) × (slice_get labels i ≡ Some k)

pub members_has : (nets labels : List ℕ) (k n : ℕ) → Has (members nets labels k) n → Labelled nets labels k n
members_has [] labels k n h = absurd h
members_has (x ∷ nets) [] k n h = absurd h
members_has (x ∷ nets) (l ∷ labels) k n h = by_test (l == k) refl (members_has nets labels k n) h
  where
    by_test : (b : Bool) → (l == k) ≡ b → (Has (members nets labels k) n → Labelled nets labels k n)
        → Has (cond b (x ∷ members nets labels k) (members nets labels k)) n →
        Labelled (x ∷ nets) (l ∷ labels) k n
    by_test true e rest (inl same) = (0, ap (λ (m : ℕ). Some m) same, ap (λ (m : ℕ). Some m) (eqb-true l k e))
    by_test true e rest (inr g) = let r = rest g in (suc r.0, r.1, r.2)
    by_test false e rest g = let r = rest g in (suc r.0, r.1, r.2)

pub has_member : (nets labels : List ℕ) (k n i : ℕ) → slice_get nets i ≡ Some n
    → slice_get labels i ≡ Some k → Has (members nets labels k) n
has_member [] labels k n i e f = cc e
has_member (x ∷ nets) [] k n i e f = cc f
has_member (x ∷ nets) (l ∷ labels) k n zero e f =
    let same : x ≡ n = cc e in
    let label : l ≡ k = cc f in
    subst (λ (xs : List ℕ). Has xs n)
    (sym
    (ap (λ (b : Bool). cond b (x ∷ members nets labels k) (members nets labels k))
    (eq-eqb l k label))) (inl same)
has_member (x ∷ nets) (l ∷ labels) k n (suc i) e f = by_test (l == k) (has_member nets labels k n i e f)
  where
    by_test : (b : Bool) → Has (members nets labels k) n → Has (cond b (x ∷ members nets labels k) (members nets labels k)) n
    by_test true h = inr h
    by_test false h = h

pub members_rise : (nets labels : List ℕ) (k : ℕ) → Rises nets → Rises (members nets labels k)
members_rise [] labels k rise = tt
members_rise (x ∷ nets) [] k rise = tt
members_rise (x ∷ nets) (l ∷ labels) k rise = by_test (l == k) (members_rise nets labels k rise.1)
  where
    by_test : (b : Bool) → Rises (members nets labels k) → Rises (cond b (x ∷ members nets labels k) (members nets labels k))
    by_test true r = (λ y h. let m = members_has nets labels k y h in rise.0 y (has_at nets m.0 y m.1), r)
    by_test false r = r

pub members_more : (nets labels : List ℕ) (k i n l : ℕ) → slice_get nets i ≡ Some n → slice_get labels i ≡ Some l →
    members (take (i + 1) nets) (take (i + 1) labels) k ≡ members (take i nets) (take i labels) k ++ cond (l == k) (n ∷ []) []
members_more [] labels k i n l e f = cc e
members_more (x ∷ nets) [] k i n l e f = cc f
members_more (x ∷ nets) (y ∷ labels) k zero n l e f =
    let same : x ≡ n = cc e in
    let label : y ≡ l = cc f in
    ap (λ (m : ℕ). cond (y == k) (m ∷ []) []) same ∙ ap (λ (m : ℕ). cond (m == k) (n ∷ []) []) label
members_more (x ∷ nets) (y ∷ labels) k (suc i) n l e f =
    let on : suc i + 1 ≡ suc (i + 1) = omega arith in
    ap (λ (m : ℕ). members (take m (x ∷ nets)) (take m (y ∷ labels)) k) on ∙ by_test (y == k) (members_more nets labels k i n l e f)
  where
    by_test : (b : Bool)
        → members (take (i + 1) nets) (take (i + 1) labels) k
        ≡ members (take i nets) (take i labels) k ++ cond (l == k) (n ∷ []) [] →
        cond b (x ∷ members (take (i + 1) nets) (take (i + 1) labels) k) (members (take (i + 1) nets) (take (i + 1) labels) k)
        ≡ cond b (x ∷ members (take i nets) (take i labels) k) (members (take i nets) (take i labels) k) ++ cond (l == k) (n ∷ []) []
    by_test true rest = ap (λ (ms : List ℕ). x ∷ ms) rest
    by_test false rest = rest

pub rise_members : (nets labels : List ℕ) (k : ℕ) (group : List ℕ) → Rise nets → group ≡ members nets labels k → Rise group
rise_members nets labels k group rise is =
    subst (λ (g : List ℕ). Rise g) (sym is)
    (order_pairs (λ a b. a < b) (members nets labels k)
    (members_rise nets labels k (pairs_order (λ a b. a < b) nets rise)))

pub groups_more : (nets labels : List ℕ) (k : ℕ)
    → flat_map (group_at nets labels) (range_with_len 0 (k + 1))
    ≡ flat_map (group_at nets labels) (range_with_len 0 k) ++ group_at nets labels k
groups_more nets labels k =
    let on : k + 1 ≡ suc k = omega arith in
    let z : 0 + k ≡ k = omega arith in
    ap (λ (n : ℕ). flat_map (group_at nets labels) (range_with_len 0 n)) on
    ∙ ap (λ (l : List ℕ). flat_map (group_at nets labels) l) (range_with_len_more 0 k)
    ∙ flat_map-append (group_at nets labels) (range_with_len 0 k) ((0 + k) ∷ [])
    ∙ ap (λ (l : List (List ℕ)). flat_map (group_at nets labels) (range_with_len 0 k) ++ l)
    (append-nil (group_at nets labels (0 + k)) ∙ ap (λ (n : ℕ). group_at nets labels n) z)

two_items : (xs : List ℕ) (a b : ℕ) → Has xs a → Has xs b → a ≢ b → 2 ≤ length xs
two_items [] a b h k ne = absurd h
two_items (x ∷ []) a b (inl p) (inl q) ne = absurd (ne (sym p ∙ q))
two_items (x ∷ []) a b (inl p) (inr k) ne = absurd k
two_items (x ∷ []) a b (inr h) k ne = absurd h
two_items (x ∷ y ∷ xs) a b h k ne = omega arith

-- Lemmas about the groups of nets. The nets are in ascending order. If a net has label k, the net at place k has this label too.
module _ (nets labels : List ℕ) (rise : Rises nets) (count : length labels ≡ length nets)
    (own : (i k : ℕ) → slice_get labels i ≡ Some k → (k ≤ i) × (slice_get labels k ≡ Some k)) where
  abbrev groups : List (List ℕ)
  groups = groups_by nets labels

  abbrev group : ℕ → List ℕ
  group k = members nets labels k

  -- `g` has all nets with label `k`, and there are two or more of these nets
  record IsGroupAt (k : ℕ) (g : List ℕ) : Type 0 where
    nets_are : group k ≡ g
    several : 2 ≤ length g

  group_at_has : (k : ℕ) (g : List ℕ) → Has (group_at nets labels k) g → IsGroupAt k g
  group_at_has k g h = by_test (nat_le 2 (length (group k))) refl h
    where
      by_test : (b : Bool) → nat_le 2 (length (group k)) ≡ b → Has (cond b (group k ∷ []) []) g → IsGroupAt k g
      by_test true e (inl same) =
          record {
            nets_are = same;
            several = subst (λ (l : List ℕ). 2 ≤ length l) same
                (leb-true 2 (length (group k)) e);
          }
      by_test true e (inr h) = absurd h
      by_test false e h = absurd h

  groups_has : (g : List ℕ) → Has groups g → (k : ℕ) × IsGroupAt k g
  groups_has g h = let r = flat_map_has (group_at nets labels) (range_with_len 0 (length labels)) g h in (r.0, group_at_has r.0 g r.2)

  has_group : (k : ℕ) → k < length labels → 2 ≤ length (group k) → Has groups (group k)
  has_group k less several =
      has_flat_map (group_at nets labels) (range_with_len 0 (length labels)) k (group k)
      (has_range 0 (length labels) k (omega arith) (omega (arith, less)))
      (subst (λ (b : Bool). Has (cond b (group k ∷ []) []) (group k)) (sym (le-leb 2 (length (group k)) several)) (inl refl))

  in_order : (R : List ℕ → List ℕ → Type 0)
      → ((x z : ℕ) → x < z → (a b : List ℕ) → IsGroupAt x a → IsGroupAt z b → R a b)
      → InOrder R groups
  in_order R across =
      order_flat_map (λ x z. x < z) R (group_at nets labels) (range_with_len 0 (length labels)) (order_range 0 (length labels))
      (λ x h. alone x (nat_le 2 (length (group x))))
      (λ x z less a b ha hb. across x z less a b (group_at_has x a ha) (group_at_has z b hb))
    where
      alone : (x : ℕ) (b : Bool) → InOrder R (cond b (group x ∷ []) [])
      alone x true = (λ y h. absurd h, tt)
      alone x false = tt

  labelled : (k : ℕ) (g : List ℕ) → IsGroupAt k g → (n : ℕ) → Has g n → Labelled nets labels k n
  labelled k g is n h = members_has nets labels k n (subst (λ (l : List ℕ). Has l n) (sym is.nets_are) h)

  rises : (k : ℕ) (g : List ℕ) → IsGroupAt k g → Rises g
  rises k g is = subst (λ (l : List ℕ). Rises l) is.nets_are (members_rise nets labels k rise)

  apart : (x z : ℕ) → x < z → (a b : List ℕ) → IsGroupAt x a → IsGroupAt z b → (n : ℕ) → Contains a n → Contains b n → ⊥
  apart x z less a b p q n ca cb =
      let r = labelled x a p n (contains_has a n ca) in
      let s = labelled z b q n (contains_has b n cb) in
      let at : r.0 ≡ s.0 = place_same nets rise r.0 s.0 n r.1 s.1 in
      let two : Some x ≡ Some z = sym r.2 ∙ ap (λ (i : ℕ). slice_get labels i) at ∙ s.2 in
      let same : x ≡ z = cc two in
      omega (arith, less, same)

  before : (x z : ℕ) → x < z → (a b : List ℕ) → IsGroupAt x a → IsGroupAt z b → Before a b
  before x z less a b p q =
      let r = labelled x a p (least_of a) (least_has a p.several) in
      let s = labelled z b q (least_of b) (least_has b q.several) in
      let first = (own r.0 x r.2).1 in
      let later = (own s.0 z s.2).0 in
      let within : x < length nets = omega (arith, slice_get_within labels x x first, count) in
      let at : slice_get nets x ≡ Some (get_or nets x 0) = slice_get-get_or nets x 0 within in
      let member : Has a (get_or nets x 0) = subst (λ (l : List ℕ). Has l (get_or nets x 0))
      p.nets_are (has_member nets labels x (get_or nets x 0) x at first) in
      let low : least_of a ≤ get_or nets x 0 = least_le a (get_or nets x 0) (rises x a p) member in
      let high : get_or nets x 0
      < least_of b = place_order nets rise x s.0 (get_or nets x 0) (least_of b) at s.1
      (omega (arith, less, later)) in
      omega (arith, low, high)

  pub are_groups : (board : RawBoard) → walk_nets board ≡ nets → AreGroups board groups
  are_groups board walked = record {
    several = all_from_has (λ (g : List ℕ). 2 ≤ length g) groups (λ g h. (groups_has g h).1.several);
    walked = all_from_has (λ (g : List ℕ). All (λ n. Contains (walk_nets board) n) g) groups
        (λ g h.
        let r = groups_has g h in
        all_from_has (λ (n : ℕ). Contains (walk_nets board) n) g
        (λ n k. let s = labelled r.0 g r.1 n k in subst (λ (l : List ℕ). Contains l n) (sym walked)
        (has_contains nets n (has_at nets s.0 n s.1))));
    rise = all_from_has Rise groups (λ g h. let r = groups_has g h in order_pairs (λ a b. a < b) g (rises r.0 g r.1));
    disjoint =
        order_pairs (λ one other. (n : ℕ) → Contains one n → Contains other n → ⊥) groups
        (in_order (λ one other. (n : ℕ) → Contains one n → Contains other n → ⊥) apart);
    order = order_pairs Before groups (in_order Before before);
  }

  pub joined_labels : AreOrdered groups → (i j a b k l : ℕ) → slice_get nets i ≡ Some a
      → slice_get nets j ≡ Some b → slice_get labels i ≡ Some k → slice_get labels j ≡ Some l →
      are_joined groups a b ≡ (k == l)
  joined_labels ordered i j a b k l ni nj li lj =
      same_answer (are_joined groups a b) (k == l) (λ e. to (joined_cases groups a b e))
      (λ e. from (eqb-true k l e) (cases_eq a b))
    where
      label_at : (m n x y : ℕ) → slice_get nets m ≡ Some n → slice_get labels m ≡ Some y → Labelled nets labels x n → y ≡ x
      label_at m n x y nm lm r =
          let at : m ≡ r.0 = place_same nets rise m r.0 n nm r.1 in
          let two : Some y ≡ Some x = sym lm ∙ ap (λ (p : ℕ). slice_get labels p) at ∙ r.2 in
          cc two

      to : (a ≡ b) ⊎ Together groups a b → (k == l) ≡ true
      to (inl same) =
          let other : slice_get nets j ≡ Some a = nj ∙ ap (λ (m : ℕ). Some m) (sym same) in
          let r : Labelled nets labels l a = (j, other, lj) in
          eq-eqb k l (label_at i a l k ni li r)
      to (inr (g, has, in_a, in_b)) =
          let r = groups_has g has in
          let one : k ≡ r.0 = label_at i a r.0 k ni li (labelled r.0 g r.1 a in_a) in
          let two : l ≡ r.0 = label_at j b r.0 l nj lj (labelled r.0 g r.1 b in_b) in
          eq-eqb k l (one ∙ sym two)

      from : k ≡ l → (a ≡ b) ⊎ (a ≡ b → ⊥) → are_joined groups a b ≡ true
      from same (inl one) = joined_self groups a b one
      from same (inr ne) =
          let in_a : Has (group k) a = has_member nets labels k a i ni li in
          let in_b : Has (group k) b = has_member nets labels k b j nj (lj ∙ ap (λ (m : ℕ). Some m) (sym same)) in
          let less : k < length labels = omega (arith, (own i k li).0, slice_get_within labels i k li) in
          joined_in groups ordered a b (group k, has_group k less (two_items (group k) a b in_a in_b ne), in_a, in_b)
