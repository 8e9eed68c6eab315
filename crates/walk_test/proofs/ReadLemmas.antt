-- Lemmas about reading the rows of a log in turn, and about the labels that result. A net's label is the place, in the list of walk nets,
-- of the first walk net whose 1 the net reads.
use Rattle.std.proofs.Common.{◌≡◌, ◌⊎◌, inl, inr, ℕ, suc, ◌+◌, ◌<◌, ◌≤◌, ◌==◌, ◌^◌, Bool, true, false, cond, List, [], ◌∷◌, length, map, take, get_or, Decides, Some, nat_lt, replicate, refl, sym, ap, ◌∙◌, subst, arith}
use Rattle.std.specs.Prelude.{slice_get, All, Contains}
use Rattle.std.specs.Bool.{OnFalse, OnTrue}
use Rattle.std.specs.List.{list_all, flat_map}
use Rattle.std.proofs.lemmas.Bool.{and_from, and_parts, cases_lt, eqb-true, eq-eqb, lt-ltb, ltb-true, ltb-false, ne_eqb, OnFalse_at, OnTrue_at}
use Rattle.std.proofs.lemmas.List.{get_or-replicate, get_or_past, length-replicate, take_more}
use Rattle.std.proofs.lemmas.List.Sums.{fold-append}
use Rattle.std.proofs.lemmas.Option.{slice_get_within, slice_get-get_or, get_or_from_slice_get}
use Rattle.board_defs.proofs.Members.{Has, has_at, has_place, has_contains, contains_has, all_has, has_flat_map, flat_map_has, has_from_all}
use Rattle.board_defs.proofs.Places.{all_from}
use Rattle.plan_tables.specs.Assigned.{assigned}
use Rattle.plan_tables.proofs.AssignLemmas.{assigned_groups, has_mark, length-assigned, mark_has}
use Rattle.tap_defs.proofs.chain.ListLemmas.{cons_path}
use Rattle.response_log.specs.LogRows.{HasSize, bit_in}
use Rattle.walk_test.specs.declared.tables.NetCells.{NetCells}
use Rattle.walk_test.specs.inner.Reading.{compared_bits, with_compared, first_one, label_of, logged_nets, first_at, first_in, is_even, below, AreCompared, AreLoggedNets, HasPlaces, ReadTheSame, StartsGroup, AreStarted, IsRowRight, AreRead, ShowsLabels}
use Rattle.walk_test.proofs.LabelLemmas.{first_low, first_holds, first_same, label_is, first_compared, each_shows, shows_each}

below_less : (j none f : ℕ) → f < j → below j none f ≡ f
below_less j none f less = ap (λ (b : Bool). cond b f none) (lt-ltb f j less)

below_past : (j none f : ℕ) → j ≤ f → below j none f ≡ none
below_past j none f past = by_test (nat_lt f j) refl
  where
    by_test : (b : Bool) → nat_lt f j ≡ b → cond b f none ≡ none
    by_test true e = absurd (omega (arith, past, ltb-true f j e))
    by_test false e = refl

below_more : (j none f : ℕ) → (f ≡ j → ⊥) → below j none f ≡ below (j + 1) none f
below_more j none f other = by_side (cases_lt f j) (cases_lt j f)
  where
    by_side : (f < j) ⊎ (j ≤ f) → (j < f) ⊎ (f ≤ j) → below j none f ≡ below (j + 1) none f
    by_side (inl less) k = below_less j none f less ∙ sym (below_less (j + 1) none f (omega (arith, less)))
    by_side (inr low) (inl past) = below_past j none f low ∙ sym (below_past (j + 1) none f (omega (arith, past)))
    by_side (inr low) (inr high) = absurd (other (omega (arith, low, high)))

pub first_most : (log : List (List Bool)) (at : ℕ) → first_one log at ≤ length log
first_most [] at = omega arith
first_most (row ∷ log) at = by_test (get_or row at false) (first_most log at)
  where
    by_test : (b : Bool) → first_one log at ≤ length log → cond b 0 (suc (first_one log at)) ≤ suc (length log)
    by_test true most = omega arith
    by_test false most = omega (arith, most)

first_reads : (log : List (List Bool)) (at j : ℕ) → j < length log → first_one log at ≡ j → bit_in log j at ≡ true
first_reads log at j less is = ap (λ (k : ℕ). bit_in log k at) (sym is) ∙ first_holds log at (omega (arith, less, is))

-- One iteration of the loop over the nets, for net `i`.
pub compared_more : (len : ℕ) (nets : List NetCells) (i : ℕ) (net : NetCells) → i < length nets
    → net ≡ get_or nets i net
    → with_compared (compared_bits len (take i nets)) net ≡ compared_bits len (take (i + 1) nets)
compared_more len nets i net less is =
    ap (λ (n : NetCells). with_compared (compared_bits len (take i nets)) n) is
    ∙ sym
    (ap (λ (l : List NetCells). compared_bits len l) (take_more nets i net less)
    ∙ fold-append with_compared (replicate len false) (take i nets) (get_or nets i net ∷ []))

module _ (len : ℕ) (nets : List NetCells) where
  bits_are : compared_bits len nets
      ≡ assigned (λ at. at) (λ at. true) (replicate len false)
      (flat_map (λ (net : NetCells). net.compared) nets)
  bits_are = assigned_groups (λ at. at) (λ at. true) (λ (net : NetCells). net.compared) nets (replicate len false)

  compared_length : (mask : List Bool) → mask ≡ compared_bits len nets → length mask ≡ len
  compared_length mask is =
      ap length (is ∙ bits_are)
      ∙ length-assigned (λ at. at) (λ at. true) (replicate len false)
      (flat_map (λ (net : NetCells). net.compared) nets) ∙ length-replicate len false

  compared_are : (mask : List Bool) → mask ≡ compared_bits len nets → All (HasPlaces len) nets → AreCompared nets mask
  compared_are mask is places = record {
    all = λ i at net e contains.
        let has = contains_has net.compared at contains in
        let in_nets = has_at nets i net e in
        let less = has_from_all (λ p. p < len) net.compared at (has_from_all (HasPlaces len) nets net places in_nets).within has in
        ap (λ (l : List Bool). get_or l at false) (is ∙ bits_are)
        ∙ has_mark (λ at. at) (flat_map (λ (n : NetCells). n.compared) nets) (replicate len false)
        at (has_flat_map (λ (n : NetCells). n.compared) nets net at in_nets has)
        (omega (arith, less, length-replicate len false));
    only =
        λ at on. by_mark at
        (mark_has (λ at. at) (flat_map (λ (n : NetCells). n.compared) nets) (replicate len false) at
        (sym (ap (λ (l : List Bool). get_or l at false) (is ∙ bits_are)) ∙ on));
    some = λ i net e. (has_from_all (HasPlaces len) nets net places (has_at nets i net e)).some;
  }
    where
      off : (at : ℕ) → get_or (replicate len false) at false ≡ false
      off at = by_side (cases_lt at len)
        where
          by_side : (at < len) ⊎ (len ≤ at) → get_or (replicate len false) at false ≡ false
          by_side (inl less) = get_or-replicate len at false false less
          by_side (inr past) = get_or_past (replicate len false) at false (omega (arith, past, length-replicate len false))

      by_mark : (at : ℕ)
          → (get_or (replicate len false) at false ≡ true)
          ⊎ ((x : ℕ) × Has (flat_map (λ (n : NetCells). n.compared) nets) x × (x ≡ at)) →
          (i : ℕ) × (net : NetCells) × (slice_get nets i ≡ Some net) × Contains net.compared at
      by_mark at (inl on) = let bad : false ≡ true = sym (off at) ∙ on in cc bad
      by_mark at (inr (x, has, same)) =
          let r = flat_map_has (λ (n : NetCells). n.compared) nets x has in
          let place = has_place nets r.0 r.1 in
          (place.0, r.0, place.1, subst (λ (k : ℕ). Contains r.0.compared k) same (has_contains r.0.compared x r.2))

pub all_logged : (log : List (List Bool)) (nets : List NetCells) (len : ℕ) (mask : List Bool)
    → length nets < 2 ^ 32 → HasSize (length nets) len log → All (HasPlaces len) nets
    → mask ≡ compared_bits len nets → AreLoggedNets (logged_nets log nets mask)
all_logged log nets len mask few size places is = record {
  few = omega (arith, few, size.rows);
  rows = size.rows;
  bits = subst (λ (n : ℕ). All (λ (row : List Bool). length row ≡ n) log) (sym (compared_length len nets mask is)) size.bits;
  compared = compared_are len nets mask is places;
}

module _ (log : List (List Bool)) (mask : List Bool) (nets : List NetCells) (none : ℕ)
    (all : none ≡ length log) (rows : length log ≡ length nets) (compared : AreCompared nets mask)
  where
    pub first_on : (j : ℕ) (net : NetCells) → slice_get nets j ≡ Some net → get_or mask (first_at net) false ≡ true
    first_on j net e =
        compared.all j (first_at net) net e
        (has_contains net.compared (first_at net) (first_compared net (compared.some j net e)))

    within : (k : ℕ) (net : NetCells) → slice_get nets k ≡ Some net → k < length log
    within k net e = omega (arith, slice_get_within nets k net e, rows)

    label_at : (k : ℕ) (net : NetCells) → slice_get nets k ≡ Some net → get_or (map (label_of log) nets) k 0 ≡ first_one log (first_at net)
    label_at k net e = get_or_from_slice_get (map (label_of log) nets) k (first_one log (first_at net)) 0 (label_is log nets k net e)

    shown : ShowsLabels log (map (label_of log) nets) nets → (k i at : ℕ) (other net : NetCells)
        → slice_get nets k ≡ Some other → slice_get nets i ≡ Some net → Has net.compared at →
        bit_in log k at ≡ (first_one log (first_at net) == first_one log (first_at other))
    shown shows k i at other net e f has =
        each_shows log nets (omega (arith, rows)) compared.some shows k i at net (slice_get_within nets k other e) f has
        ∙ ap (λ (l : ℕ). l == get_or (map (label_of log) nets) k 0) (label_at i net f)
        ∙ ap (λ (l : ℕ). first_one log (first_at net) == l) (label_at k other e)

    pub none_read : (firsts : List ℕ) → ((at : ℕ) → get_or firsts at none ≡ none) → AreRead log mask nets none 0 firsts
    none_read firsts blank = record {
      right = λ k net less e. absurd (omega (arith, less));
      found = λ at on. blank at ∙ sym (below_past 0 none (first_one log at) (omega arith));
    }

    -- Lemmas about row `j`, in which `net` carries 1. The rows before row `j` have been read. `firsts` has, for each compared position,
    -- the first of these rows in which the position reads 1, or `none`.
    module _ (j : ℕ) (firsts : List ℕ) (read : AreRead log mask nets none j firsts) (net : NetCells)
        (is_net : slice_get nets j ≡ Some net) where
      abbrev own : ℕ
      own = first_at net

      abbrev first : ℕ
      first = get_or firsts own none

      less : j < length log
      less = within j net is_net

      known : first ≡ below j none (first_one log own)
      known = read.found own (first_on j net is_net)

      one_more : IsRowRight log mask j own → (new : List ℕ)
          → ((at : ℕ) → get_or mask at false ≡ true
          → get_or new at none ≡ below (j + 1) none (first_one log at))
          → AreRead log mask nets none (j + 1) new
      one_more right new found = record {
        right = λ k other k_less e. by_side k other e (cases_lt k j) k_less;
        found = found;
      }
        where
          by_side : (k : ℕ) (other : NetCells) → slice_get nets k ≡ Some other → (k < j) ⊎ (j ≤ k)
              → k < j + 1 → IsRowRight log mask k (first_at other)
          by_side k other e (inl before) k_less = read.right k other before e
          by_side k other e (inr past) k_less =
              let same : j ≡ k = omega (arith, past, k_less) in
              let two : Some net ≡ Some other = sym is_net ∙ ap (λ (i : ℕ). slice_get nets i) same ∙ e in
              let nets_same : net ≡ other = cc two in
              subst (λ (i : ℕ). IsRowRight log mask i (first_at other)) same
              (subst (λ (x : NetCells). IsRowRight log mask j (first_at x)) nets_same right)

      -- the case in which the net's position reads 1 in an earlier row
      module _ (again : nat_lt first j ≡ true) where
        earlier : first < j
        earlier = ltb-true first j again

        label : first_one log own ≡ first
        label = by_side (cases_lt (first_one log own) j)
          where
            by_side : (first_one log own < j) ⊎ (j ≤ first_one log own) → first_one log own ≡ first
            by_side (inl before) = sym (known ∙ below_less j none (first_one log own) before)
            by_side (inr past) =
                let is : first ≡ none = known ∙ below_past j none (first_one log own) past in
                absurd (omega (arith, is, all, earlier, less))

        abbrev at_first : NetCells
        at_first = get_or nets first net

        is_first : slice_get nets first ≡ Some at_first
        is_first = slice_get-get_or nets first net (omega (arith, earlier, less, rows))

        right_first : IsRowRight log mask first (first_at at_first)
        right_first = read.right first at_first earlier is_first

        own_first : first_one log (first_at at_first) ≡ first
        own_first =
            let on : bit_in log first own ≡ true = first_reads log own first (omega (arith, earlier, less)) label in
            sym
            (eqb-true (first_one log own) (first_one log (first_at at_first))
            (sym (right_first.reads own (first_on j net is_net)) ∙ on)) ∙ label

        reads_again : ReadTheSame log mask j first → (at : ℕ) → get_or mask at false ≡ true → bit_in log j at ≡ (first_one log at == first)
        reads_again same at on = same at on ∙ right_first.reads at on ∙ ap (λ (l : ℕ). first_one log at == l) own_first

        pub again_read : ReadTheSame log mask j first → AreRead log mask nets none (j + 1) firsts
        again_read same = one_more
            (record {
              low = omega (arith, label, earlier);
              reads = λ at on. reads_again same at on
                  ∙ ap (λ (l : ℕ). first_one log at == l) (sym label);
            })
            firsts
            (λ at on. read.found at on ∙ below_more j none (first_one log at) (other at on))
          where
            other : (at : ℕ) → get_or mask at false ≡ true → first_one log at ≡ j → ⊥
            other at on is =
                let same_first : first_one log at
                ≡ first = eqb-true (first_one log at) first
                (sym (reads_again same at on) ∙ first_reads log at j less is) in
                omega (arith, is, same_first, earlier)

        pub again_shown : ShowsLabels log (map (label_of log) nets) nets → ReadTheSame log mask j first
        again_shown shows at on =
            let r = compared.only at on in
            let has = contains_has r.1.compared at r.3 in
            shown shows j r.0 at net r.1 is_net r.2 has
            ∙ ap (λ (l : ℕ). first_one log (first_at r.1) == l) (label ∙ sym own_first)
            ∙ sym (shown shows first r.0 at at_first r.1 is_first r.2 has)

      -- the case in which the net's position reads 1 in no earlier row
      module _ (fresh : nat_lt first j ≡ false) where
        late : j ≤ first_one log own
        late = by_side (cases_lt (first_one log own) j)
          where
            by_side : (first_one log own < j) ⊎ (j ≤ first_one log own) → j ≤ first_one log own
            by_side (inl before) =
                let is : first
                ≡ first_one log own = known ∙ below_less j none (first_one log own) before in
                omega (arith, is, before, ltb-false first j fresh)
            by_side (inr past) = past

        module _ (starts : StartsGroup log mask j own none firsts) where
          own_here : first_one log own ≡ j
          own_here = omega (arith, late, first_low log own j (and_parts (get_or mask own false) (bit_in log j own) starts.is_read).1)

          here : (at : ℕ) → get_or mask at false ≡ true → bit_in log j at ≡ true → first_one log at ≡ j
          here at on reads = by_side (cases_lt (first_one log at) j)
            where
              by_side : (first_one log at < j) ⊎ (j ≤ first_one log at) → first_one log at ≡ j
              by_side (inl before) =
                  let is : none
                  ≡ first_one log at = sym (starts.fresh at on reads) ∙ read.found at on
                  ∙ below_less j none (first_one log at) before in
                  absurd (omega (arith, is, all, before, less))
              by_side (inr past) = omega (arith, past, first_low log at j reads)

          elsewhere : (at : ℕ) → bit_in log j at ≡ false → first_one log at ≡ j → ⊥
          elsewhere at off is = let bad : true ≡ false = sym (first_reads log at j less is) ∙ off in cc bad

          reads_here : (at : ℕ) → get_or mask at false ≡ true → (b : Bool) → bit_in log j at ≡ b
              → b ≡ (first_one log at == first_one log own)
          reads_here at on true e = sym (eq-eqb (first_one log at) (first_one log own) (here at on e ∙ sym own_here))
          reads_here at on false e = sym (ne_eqb (first_one log at) (first_one log own) (λ is. elsewhere at e (is ∙ own_here)))

          pub start_read : (new : List ℕ) → AreStarted log mask j none firsts new → AreRead log mask nets none (j + 1) new
          start_read new started = one_more
              (record { low = omega (arith, own_here); reads = λ at on. reads_here at on (bit_in log j at) refl })
              new
              (λ at on. by_bit at on (bit_in log j at) refl)
            where
              by_bit : (at : ℕ) → get_or mask at false ≡ true → (b : Bool) → bit_in log j at ≡ b
                  → get_or new at none ≡ below (j + 1) none (first_one log at)
              by_bit at on true e =
                  let is = here at on e in
                  started.marked at on e ∙ sym (below_less (j + 1) none (first_one log at) (omega (arith, is)) ∙ is)
              by_bit at on false e = started.kept at on e ∙ read.found at on ∙ below_more j none (first_one log at) (elsewhere at e)

        pub start_shown : ShowsLabels log (map (label_of log) nets) nets → StartsGroup log mask j own none firsts
        start_shown shows = record {
          is_read =
              and_from (get_or mask own false) (bit_in log j own) (first_on j net is_net)
              (shown shows j j own net net is_net is_net
              (first_compared net (compared.some j net is_net))
              ∙ eq-eqb (first_one log own) (first_one log own) refl);
          fresh = λ at on reads. by_side at on reads (cases_lt (first_one log at) j);
        }
          where
            by_side : (at : ℕ) → get_or mask at false ≡ true → bit_in log j at ≡ true
                → (first_one log at < j) ⊎ (j ≤ first_one log at) → get_or firsts at none ≡ none
            by_side at on reads (inl before) =
                let r = compared.only at on in
                let has = contains_has r.1.compared at r.3 in
                let k : ℕ = first_one log at in
                let other : NetCells = get_or nets k net in
                let is_other : slice_get nets k ≡ Some other = slice_get-get_or nets k net (omega (arith, before, less, rows)) in
                let its : first_one log (first_at r.1)
                ≡ first_one log own = eqb-true _ _
                (sym (shown shows j r.0 at net r.1 is_net r.2 has) ∙ reads) in
                let others : first_one log (first_at r.1)
                ≡ first_one log (first_at other) = eqb-true _ _
                (sym (shown shows k r.0 at other r.1 is_other r.2 has)
                ∙ first_reads log at k (omega (arith, before, less)) refl) in
                let low : first_one log (first_at other) ≤ k = (read.right k other before is_other).low in
                absurd (omega (arith, its, others, low, late, before))
            by_side at on reads (inr past) = read.found at on ∙ below_past j none (first_one log at) past

      -- If the net's position reads 1 in an earlier row, `t` says whether row `j` reads the same as that row, and the first rows stay
      -- unchanged.
      abbrev Again : ℕ → List ℕ → Bool → Type 0
      Again at new t =
          OnTrue (nat_lt (get_or firsts at none) j)
          (Decides t (ReadTheSame log mask j (get_or firsts at none)) × (new ≡ firsts))

      abbrev Starts : ℕ → List ℕ → Bool → Type 0
      Starts at new t =
          OnFalse (nat_lt (get_or firsts at none) j)
          (Decides t (StartsGroup log mask j at none firsts)
          × OnTrue t (AreStarted log mask j none firsts new))

      pub row_read : (at : ℕ) → at ≡ own → (new : List ℕ) (t : Bool) → t ≡ true → Again at new t
          → Starts at new t → AreRead log mask nets none (j + 1) new
      row_read at is new t on again starts = by_test (nat_lt first j) refl
        where
          by_test : (b : Bool) → nat_lt first j ≡ b → AreRead log mask nets none (j + 1) new
          by_test true e =
              let r = OnTrue_at e (subst (λ (k : ℕ). Again k new t) is again) in
              subst (λ (l : List ℕ). AreRead log mask nets none (j + 1) l) (sym r.1) (again_read e (r.0.0 on))
          by_test false e =
              let r = OnFalse_at e (subst (λ (k : ℕ). Starts k new t) is starts) in
              start_read e (r.0.0 on) new (OnTrue_at on r.1)

      pub row_not : (at : ℕ) → at ≡ own → (new : List ℕ) (t : Bool) → t ≡ false → Again at new t
          → Starts at new t → ShowsLabels log (map (label_of log) nets) nets → ⊥
      row_not at is new t off again starts shows = by_test (nat_lt first j) refl
        where
          by_test : (b : Bool) → nat_lt first j ≡ b → ⊥
          by_test true e =
              let r = OnTrue_at e (subst (λ (k : ℕ). Again k new t) is again) in
              let bad : true ≡ false = sym (r.0.1 (again_shown e shows)) ∙ off in cc bad
          by_test false e =
              let r = OnFalse_at e (subst (λ (k : ℕ). Starts k new t) is starts) in
              let bad : true ≡ false = sym (r.0.1 (start_shown e shows)) ∙ off in cc bad

    -- the labels after all rows are read
    module _ (firsts : List ℕ) (read : AreRead log mask nets none (length nets) firsts) where
      found_at : (at : ℕ) → get_or mask at false ≡ true → get_or firsts at none ≡ first_one log at
      found_at at on = read.found at on ∙ by_side (cases_lt (first_one log at) (length nets))
        where
          by_side : (first_one log at < length nets) ⊎ (length nets ≤ first_one log at)
              → below (length nets) none (first_one log at) ≡ first_one log at
          by_side (inl before) = below_less (length nets) none (first_one log at) before
          by_side (inr past) = below_past (length nets) none (first_one log at) past ∙ omega (arith, all, rows, past, first_most log at)

      on_at : (i : ℕ) (net : NetCells) → slice_get nets i ≡ Some net → (at : ℕ) → Has net.compared at → get_or mask at false ≡ true
      on_at i net e at has = compared.all i at net e (has_contains net.compared at has)

      pub labels_are : map (first_in none firsts) nets ≡ map (label_of log) nets
      labels_are = each nets (λ k net e. found_at (first_at net) (first_on k net e))
        where
          each : (some : List NetCells)
              → ((k : ℕ) (net : NetCells) → slice_get some k ≡ Some net
              → first_in none firsts net ≡ label_of log net)
              → map (first_in none firsts) some ≡ map (label_of log) some
          each [] same = refl
          each (net ∷ some) same = cons_path (same 0 net refl) (each some (λ k other e. same (suc k) other e))

      pub even_shows : list_all (is_even none firsts) nets ≡ true → ShowsLabels log (map (label_of log) nets) nets
      even_shows even =
          shows_each log nets (omega (arith, rows)) compared.some
          (λ k i at net k_less f has.
          let other : NetCells = get_or nets k net in
          let e : slice_get nets k ≡ Some other = slice_get-get_or nets k net k_less in
          let on = on_at i net f at has in
          let one : get_or firsts at none ≡ first_in none firsts net =
          eqb-true (get_or firsts at none) (first_in none firsts net)
          (all_has (λ p. get_or firsts p none == first_in none firsts net) net.compared at
          (all_has (is_even none firsts) nets net even (has_at nets i net f)) has) in
          let same : first_one log at
          ≡ first_one log (first_at net) = sym (found_at at on) ∙ one
          ∙ found_at (first_at net) (first_on i net f) in
          (read.right k other k_less e).reads at on
          ∙ ap (λ (l : ℕ). l == first_one log (first_at other)) (same ∙ sym (label_at i net f))
          ∙ ap (λ (l : ℕ). get_or (map (label_of log) nets) i 0 == l) (sym (label_at k other e)))

      pub shows_even : ShowsLabels log (map (label_of log) nets) nets → list_all (is_even none firsts) nets ≡ true
      shows_even shows =
          all_from (is_even none firsts) nets
          (λ i net f. all_from (λ p. get_or firsts p none == first_in none firsts net) net.compared
          (λ k at g.
          let has = has_at net.compared k at g in
          let own_has = first_compared net (compared.some i net f) in
          let same : first_one log at ≡ first_one log (first_at net) = first_same log at (first_at net) (λ j j_less.
          let other : NetCells = get_or nets j net in
          let e : slice_get nets j ≡ Some other = slice_get-get_or nets j net (omega (arith, j_less, rows)) in
          shown shows j i at other net e f has ∙ sym (shown shows j i (first_at net) other net e f own_has)) in
          eq-eqb (get_or firsts at none) (first_in none firsts net)
          (found_at at (on_at i net f at has) ∙ same ∙ sym
          (found_at (first_at net) (first_on i net f)))))
