-- Lemmas about what the table of controls has after all nets and all one-sided drivers are added, before
-- useful controls are marked. A control is useful if it is safe alone and enables a tested driver.
use Rattle.std.proofs.Common.{◌≡◌, ℕ, zero, suc, ◌<◌, ◌≤◌, ◌==◌, Bool, true, false, not, ◌&&◌, ◌||◌, List, [], ◌∷◌, ◌++◌, map, length, Option, Some, None, refl, sym, ◌∙◌, ap, subst, arith, cond}
use Rattle.std.specs.Prelude.{slice_get, option_map, option_and_then, filter}
use Rattle.std.specs.List.{list_any, list_all, range_with_len}
use Rattle.std.proofs.lemmas.List.{length-map, append-nil}
use Rattle.std.proofs.lemmas.List.Elements.{filter-append}
use Rattle.std.proofs.lemmas.Option.{slice_get-map, slice_get_within}
use Rattle.std.proofs.lemmas.Bool.{false_from_ne_true, true_from_ne_false, eqb-true, and_from, not_from_false, not-true}
use Rattle.lists.proofs.Booleans.{same_truth, clash, eqb_refl, and_left, and_right}
use Rattle.lists.proofs.ListLemmas.{list_any-map, below_more}
use Rattle.board_defs.specs.declared.device.Control.{Control}
use Rattle.board_defs.specs.declared.board.PinAt.{PinAt}
use Rattle.board_defs.specs.declared.board.Net.{Net}
use Rattle.board_defs.specs.declared.board.NetPin.{NetPin}
use Rattle.board_defs.specs.declared.board.Part.{Part}
use Rattle.board_defs.specs.declared.board.Ctl.{Ctl}
use Rattle.board_defs.specs.declared.board.RawBoard.{RawBoard}
use Rattle.board_defs.specs.Pins.{described, cell_count, drive, is_pinned, IsCell}
use Rattle.board_defs.specs.Settings.{same_ctl}
use Rattle.board_defs.specs.Decided.{any_below, is_by, at_most_one, drives_net, is_closed, admits, is_switching, own_control, is_one_sided_by, count_port_bits, enables_one_sided, is_safe_alone}
use Rattle.board_defs.proofs.ControlOrder.{same_equal}
use Rattle.board_defs.proofs.Places.{FoundBelow, below_place, below_at, all_at, all_from}
use Rattle.net_facts.specs.declared.facts.PinFacts.{PinFacts}
use Rattle.net_facts.specs.declared.facts.NetFacts.{NetFacts}
use Rattle.net_facts.specs.declared.classes.ControlClass.{ControlClass}
use Rattle.net_facts.specs.Facts.{pin_facts_of, net_facts_of}
use Rattle.net_facts.specs.Cells.{item_of_cell, at_control}
use Rattle.net_facts.specs.Kept.{drives_there, driven_nets}
use Rattle.net_facts.specs.inner.Rows.{unsafe_too, ends_with, note_net, note_nets, copies, fresh, fresh_rows, block_where, block_bits, block_parts, made_rows}
use Rattle.net_facts.proofs.RowLemmas.{copies_get}
use Rattle.net_facts.proofs.Notes.{at_same, at_other, by_pin, run, pins_row, run_first, ends_other}

fresh_at : (board : RawBoard) (c : Ctl) → IsCell board c → item_of_cell (fresh_rows board.chain) c ≡ Some fresh
fresh_at board c h =
    ap (option_and_then (λ r. slice_get r c.cell))
    (slice_get-map (λ (part : Part). copies fresh (cell_count (described part.kind))) board.chain
    c.part) ∙ by_part (slice_get board.chain c.part) h
  where
    by_part : (part : Option Part)
        → c.cell < cell_count (option_and_then (λ (p : Part). described p.kind) part)
        → option_and_then (λ r. slice_get r c.cell)
        (option_map (λ (p : Part). copies fresh (cell_count (described p.kind))) part)
        ≡ Some fresh
    by_part None g = absurd (omega arith)
    by_part (Some part) g = copies_get fresh (cell_count (described part.kind)) c.cell g

-- the numbers of the nets below `k` that have a driver of control `c`
abbrev pub driven : RawBoard → Ctl → ℕ → List ℕ
driven board c k = filter (λ n. drives_there board c (slice_get board.nets n)) (range_with_len 0 k)

driven_more : (board : RawBoard) (c : Ctl) (k : ℕ)
    → driven board c (suc k)
    ≡ cond (drives_there board c (slice_get board.nets k)) (driven board c k ++ k ∷ [])
    (driven board c k)
driven_more board c k = ap (filter test) (below_more k) ∙ filter-append test (range_with_len 0 k) (k ∷ []) ∙ by_last (test k)
  where
    test : ℕ → Bool
    test n = drives_there board c (slice_get board.nets n)

    by_last : (t : Bool) → driven board c k ++ cond t (k ∷ []) [] ≡ cond t (driven board c k ++ k ∷ []) (driven board c k)
    by_last true = refl
    by_last false = append-nil (driven board c k)

ends_driven : (board : RawBoard) (c : Ctl) (k n : ℕ) → k ≤ n → ends_with (driven board c k) n ≡ false
ends_driven board c zero n h = refl
ends_driven board c (suc k) n h =
    ap (λ xs. ends_with xs n) (driven_more board c k)
    ∙ by_last (drives_there board c (slice_get board.nets k))
    (ends_driven board c k n (omega arith))
  where
    by_last : (t : Bool) → ends_with (driven board c k) n ≡ false
        → ends_with (cond t (driven board c k ++ k ∷ []) (driven board c k)) n ≡ false
    by_last true rest = ends_other (driven board c k) k n (omega arith)
    by_last false rest = rest

one_map : {X Y : Type 0} (f : X → Y) (test : Y → Bool) (xs : List X) → at_most_one test (map f xs) ≡ at_most_one (λ x. test (f x)) xs
one_map f test [] = refl
one_map f test (x ∷ xs) =
    ap (λ t. cond (test (f x)) (not t) (at_most_one test (map f xs))) (list_any-map f test xs)
    ∙ ap (λ t. cond (test (f x)) (not (list_any (λ y. test (f y)) xs)) t) (one_map f test xs)

none_is_one : {X : Type 0} (test : X → Bool) (xs : List X) → list_any test xs ≡ false → at_most_one test xs ≡ true
none_is_one test [] h = refl
none_is_one test (x ∷ xs) h = by_head (test x) h (none_is_one test xs)
  where
    by_head : (t : Bool) → (t || list_any test xs) ≡ false
        → (list_any test xs ≡ false → at_most_one test xs ≡ true)
        → cond t (not (list_any test xs)) (at_most_one test xs) ≡ true
    by_head true g rest = cc g
    by_head false g rest = rest g

-- there is a net, and it does not allow control `c` in a safe setting
abbrev pub refuses : RawBoard → Ctl → Option Net → Bool
refuses board c None = false
refuses board c (Some net) = not (admits board c net)

abbrev pub refused : RawBoard → Ctl → ℕ → Bool
refused board c k = any_below k (λ m. refuses board c (slice_get board.nets m))

safe_true : (b closed one : Bool) → (not b && not closed && one) ≡ not (not (one && not (true && closed)) || b)
safe_true true true true = refl
safe_true true true false = refl
safe_true true false true = refl
safe_true true false false = refl
safe_true false true true = refl
safe_true false true false = refl
safe_true false false true = refl
safe_true false false false = refl

safe_false : (b closed one : Bool) → one ≡ true → not b ≡ not (not (one && not (false && closed)) || b)
safe_false b closed true h = refl
safe_false b closed false h = cc h

grown : (k : ℕ) (nets : List ℕ) (any closed one b : Bool) → (any ≡ false → one ≡ true) →
    let x : ControlClass = cond any
    (record { nets = nets ++ k ∷ []; safe = not b && not closed && one; useful = false })
    (record { nets = nets; safe = not b; useful = false }) in
    let y : ControlClass = record {
      nets = cond any (nets ++ k ∷ []) nets;
      safe = not
          (not (one && not (any && closed)) || b);
      useful = false;
    } in
    x ≡ y
grown k nets true closed one b h =
    ap (λ t. let r : ControlClass = record { nets = nets ++ k ∷ []; safe = t; useful = false } in r)
    (safe_true b closed one)
grown k nets false closed one b h =
    ap (λ t. let r : ControlClass = record { nets = nets; safe = t; useful = false } in r)
    (safe_false b closed one (h refl))

abbrev noted : RawBoard → Ctl → ℕ → ControlClass
noted board c k = record { nets = driven board c k; safe = not (refused board c k); useful = false }

net_row : (board : RawBoard) (c : Ctl) (k : ℕ) (net : Option Net) (rows : List (List ControlClass))
    → item_of_cell rows c ≡ Some (noted board c k) →
    item_of_cell (note_net k (option_map (net_facts_of board) net) rows) c
    ≡ Some
    (record {
      nets = cond (drives_there board c net) (driven board c k ++ k ∷ [])
          (driven board c k);
      safe = not (refuses board c net || refused board c k);
      useful
          = false;
    })
net_row board c k None rows h = h
net_row board c k (Some net) rows h =
    let pins : List PinFacts = map (pin_facts_of board net) net.pins in
    let closed : Bool = is_closed board net in
    pins_row k closed pins rows c ∙ ap (option_map (run k closed c pins)) h ∙
    ap Some (run_first k closed c pins (noted board c k) (ends_driven board c k k (omega arith)) ∙
    ap
    (λ t. cond t
    (let r : ControlClass = record {
      nets = driven board c k ++ k ∷ [];
      safe = not (refused board c k)
          && not closed && at_most_one (by_pin c) pins;
      useful = false;
    } in
    r) (noted board c k)) (list_any-map (pin_facts_of board net) (by_pin c) net.pins) ∙
    ap
    (λ t. cond (drives_net board c net)
    (let r : ControlClass = record {
      nets = driven board c k ++ k ∷ [];
      safe = not (refused board c k)
          && not closed && t;
      useful = false;
    } in
    r) (noted board c k)) (one_map (pin_facts_of board net) (by_pin c) net.pins) ∙
    grown k (driven board c k) (drives_net board c net) closed
    (at_most_one (λ (p : NetPin). is_by c (drive board net p)) net.pins) (refused board c k)
    (none_is_one (λ (p : NetPin). is_by c (drive board net p)) net.pins))

nets_row : (board : RawBoard) (c : Ctl) (k : ℕ) → IsCell board c
    → item_of_cell (note_nets (map (net_facts_of board) board.nets) k (fresh_rows board.chain)) c
    ≡ Some (noted board c k)
nets_row board c zero h = fresh_at board c h
nets_row board c (suc k) h =
    ap
    (λ w. item_of_cell
    (note_net k w
    (note_nets (map (net_facts_of board) board.nets) k (fresh_rows board.chain))) c)
    (slice_get-map (net_facts_of board) board.nets k) ∙
    net_row board c k (slice_get board.nets k)
    (note_nets (map (net_facts_of board) board.nets) k (fresh_rows board.chain))
    (nets_row board c k h) ∙
    ap
    (λ xs. Some
    (let r : ControlClass = record {
      nets = xs;
      safe = not
          (refuses board c (slice_get board.nets k) || refused board c k);
      useful =
          false;
    } in
    r)) (sym (driven_more board c k))

-- the item of a control, marked as unsafe if `b` is true
abbrev block_if : Bool → ControlClass → ControlClass
block_if b row = record { nets = row.nets; safe = not b && row.safe; useful = row.useful }

block_join : (a b : Bool) (o : Option ControlClass) → option_map (block_if a) (option_map (block_if b) o) ≡ option_map (block_if (a || b)) o
block_join true b None = refl
block_join false b None = refl
block_join true b (Some row) = refl
block_join false b (Some row) = refl

block_none : (o : Option ControlClass) → o ≡ option_map (block_if false) o
block_none None = refl
block_none (Some row) = refl

block_some : (o : Option ControlClass) → option_map unsafe_too o ≡ option_map (block_if true) o
block_some None = refl
block_some (Some row) = refl

tidy : (p q : Bool) → (p && q) ≡ (p && (q && true && true))
tidy true true = refl
tidy true false = refl
tidy false q = refl

miss : (p q : Bool) → false ≡ (p && (q && true && false))
miss true true = refl
miss true false = refl
miss false q = refl

miss_too : (p q s : Bool) → false ≡ (p && (q && false && s))
miss_too true true true = refl
miss_too true true false = refl
miss_too true false s = refl
miss_too false q s = refl

where_row : (board : RawBoard) (at : PinAt) (ctl : Option Control) (rows : List (List ControlClass))
    (c : Ctl)
    → item_of_cell (block_where board at ctl rows) c
    ≡ option_map (block_if ((at.part == c.part) && is_one_sided_by board c.cell at ctl))
    (item_of_cell rows c)
where_row board at None rows c =
    block_none (item_of_cell rows c)
    ∙ ap (λ b. option_map (block_if b) (item_of_cell rows c)) (nothing_hit (at.part == c.part))
  where
    nothing_hit : (t : Bool) → false ≡ (t && false)
    nothing_hit true = refl
    nothing_hit false = refl
where_row board at (Some control) rows c = by_loose (is_pinned board at) (is_switching board at control.disable)
  where
    own : Ctl
    own = record { part = at.part; cell = control.cell }

    by_loose : (p s : Bool)
        → item_of_cell (cond (p && not s) (at_control own unsafe_too rows) rows) c
        ≡ option_map (block_if ((at.part == c.part) && ((control.cell == c.cell) && p && not s)))
        (item_of_cell rows c)
    by_loose true false = by_same (same_ctl own c) refl
      where
        by_same : (t : Bool) → same_ctl own c ≡ t
            → item_of_cell (at_control own unsafe_too rows) c
            ≡ option_map
            (block_if ((at.part == c.part) && ((control.cell == c.cell) && true && true)))
            (item_of_cell rows c)
        by_same true e =
            let same : own ≡ c = same_equal own c e in
            ap (λ x. item_of_cell (at_control x unsafe_too rows) c) same ∙ at_same c unsafe_too rows
            ∙ block_some (item_of_cell rows c)
            ∙ ap (λ b. option_map (block_if b) (item_of_cell rows c))
            (sym e ∙ tidy (at.part == c.part) (control.cell == c.cell))
        by_same false e =
            at_other own c unsafe_too rows e ∙ block_none (item_of_cell rows c)
            ∙ ap (λ b. option_map (block_if b) (item_of_cell rows c))
            (sym e ∙ tidy (at.part == c.part) (control.cell == c.cell))
    by_loose true true =
        block_none (item_of_cell rows c)
        ∙ ap (λ b. option_map (block_if b) (item_of_cell rows c))
        (miss (at.part == c.part) (control.cell == c.cell))
    by_loose false s =
        block_none (item_of_cell rows c)
        ∙ ap (λ b. option_map (block_if b) (item_of_cell rows c))
        (miss_too (at.part == c.part) (control.cell == c.cell) (not s))

abbrev hits : RawBoard → Ctl → ℕ → ℕ → Bool
hits board c part bit =
    let at : PinAt = record { part = part; bit = bit } in
    (part == c.part) && is_one_sided_by board c.cell at (own_control board at)

bits_row : (board : RawBoard) (part k : ℕ) (rows : List (List ControlClass)) (c : Ctl)
    → item_of_cell (block_bits board part k rows) c
    ≡ option_map (block_if (any_below k (hits board c part))) (item_of_cell rows c)
bits_row board part zero rows c = block_none (item_of_cell rows c)
bits_row board part (suc k) rows c =
    let at : PinAt = record { part = part; bit = k } in
    where_row board at (own_control board at) (block_bits board part k rows) c ∙
    ap (option_map (block_if (hits board c part k))) (bits_row board part k rows c) ∙
    block_join (hits board c part k) (any_below k (hits board c part)) (item_of_cell rows c)

abbrev hits_part : RawBoard → Ctl → ℕ → Bool
hits_part board c part = any_below (count_port_bits board part) (hits board c part)

parts_row : (board : RawBoard) (k : ℕ) (rows : List (List ControlClass)) (c : Ctl)
    → item_of_cell (block_parts board k rows) c
    ≡ option_map (block_if (any_below k (hits_part board c))) (item_of_cell rows c)
parts_row board zero rows c = block_none (item_of_cell rows c)
parts_row board (suc k) rows c =
    bits_row board k (count_port_bits board k) (block_parts board k rows) c ∙
    ap (option_map (block_if (hits_part board c k))) (parts_row board k rows c) ∙
    block_join (hits_part board c k) (any_below k (hits_part board c)) (item_of_cell rows c)

hit_sided : (board : RawBoard) (c : Ctl) → c.part < length board.chain
    → any_below (length board.chain) (hits_part board c) ≡ enables_one_sided board c
hit_sided board c h = same_truth (any_below (length board.chain) (hits_part board c)) (enables_one_sided board c) there back
  where
    test : ℕ → ℕ → Bool
    test part bit = let at : PinAt = record { part = part; bit = bit } in is_one_sided_by board c.cell at (own_control board at)

    there : any_below (length board.chain) (hits_part board c) ≡ true → enables_one_sided board c ≡ true
    there e =
        let r : FoundBelow (length board.chain) (hits_part board c) = below_place (length board.chain) (hits_part board c) e in
        let s : FoundBelow (count_port_bits board r.number) (hits board c r.number) = below_place
        (count_port_bits board r.number) (hits board c r.number) r.passes in
        let same : r.number ≡ c.part = eqb-true r.number c.part (and_left (r.number == c.part) (test r.number s.number) s.passes) in
        let P : ℕ → Type 0 = λ n. any_below (count_port_bits board n) (test n) ≡ true in
        subst P same
        (below_at (count_port_bits board r.number) (test r.number) s.number s.below
        (and_right (r.number == c.part) (test r.number s.number) s.passes))

    back : enables_one_sided board c ≡ true → any_below (length board.chain) (hits_part board c) ≡ true
    back e =
        let s : FoundBelow (count_port_bits board c.part) (test c.part) = below_place (count_port_bits board c.part) (test c.part) e in
        below_at (length board.chain) (hits_part board c) c.part h
        (below_at (count_port_bits board c.part) (hits board c c.part) s.number s.below
        (and_from (c.part == c.part) (test c.part s.number) (eqb_refl c.part) s.passes))

cell_part : (board : RawBoard) (c : Ctl) → IsCell board c → c.part < length board.chain
cell_part board c h = by_part (slice_get board.chain c.part) refl h
  where
    by_part : (part : Option Part) → slice_get board.chain c.part ≡ part
        → c.cell < cell_count (option_and_then (λ (p : Part). described p.kind) part)
        → c.part < length board.chain
    by_part None e g = absurd (omega arith)
    by_part (Some part) e g = slice_get_within board.chain c.part part e

safe_alone_is : (board : RawBoard) (c : Ctl)
    → (not (enables_one_sided board c) && not (refused board c (length board.nets)))
    ≡ is_safe_alone board c
safe_alone_is board c =
    ap (λ t. not (enables_one_sided board c) && not t) all
    ∙ turn (enables_one_sided board c) (list_all (admits board c) board.nets)
  where
    turn : (s a : Bool) → (not s && not (not a)) ≡ (a && not s)
    turn true true = refl
    turn true false = refl
    turn false true = refl
    turn false false = refl

    all : refused board c (length board.nets) ≡ not (list_all (admits board c) board.nets)
    all = same_truth (refused board c (length board.nets)) (not (list_all (admits board c) board.nets)) there back
      where
        some : (k : ℕ) (net : Option Net) → slice_get board.nets k ≡ net
            → refuses board c net ≡ true → list_all (admits board c) board.nets ≡ false
        some k None e g = cc g
        some k (Some net) e g =
            false_from_ne_true (list_all (admits board c) board.nets)
            (λ a. clash (admits board c net) (all_at (admits board c) board.nets a k net e)
            (not-true (admits board c net) g))

        there : refused board c (length board.nets) ≡ true → not (list_all (admits board c) board.nets) ≡ true
        there e =
            let r : FoundBelow (length board.nets) (λ m. refuses board c (slice_get board.nets m)) =
            below_place (length board.nets) (λ m. refuses board c (slice_get board.nets m)) e in
            not_from_false (list_all (admits board c) board.nets)
            (some r.number (slice_get board.nets r.number) refl r.passes)

        back : not (list_all (admits board c) board.nets) ≡ true → refused board c (length board.nets) ≡ true
        back e = by_refused (refused board c (length board.nets)) refl
          where
            by_refused : (t : Bool) → refused board c (length board.nets) ≡ t → t ≡ true
            by_refused true k = refl
            by_refused false k =
                absurd
                (clash (list_all (admits board c) board.nets)
                (all_from (admits board c) board.nets
                (λ i net g. true_from_ne_false (admits board c net)
                (λ w. clash (refused board c (length board.nets))
                (below_at (length board.nets)
                (λ m. refuses board c (slice_get board.nets m)) i
                (slice_get_within board.nets i net g)
                (ap (refuses board c) g ∙ not_from_false (admits board c net) w)) k)))
                (not-true (list_all (admits board c) board.nets) e))

-- the item of a control before the useful controls are marked
abbrev pub row_before : RawBoard → Ctl → ControlClass
row_before board c = record { nets = driven_nets board c; safe = is_safe_alone board c; useful = false }

pub made_row : (board : RawBoard) (c : Ctl) → IsCell board c
    → item_of_cell (made_rows board (map (net_facts_of board) board.nets)) c
    ≡ Some (row_before board c)
made_row board c h =
    let nets : List NetFacts = map (net_facts_of board) board.nets in
    let size : length nets ≡ length board.nets = length-map board.nets (net_facts_of board) in
    parts_row board (length board.chain) (note_nets nets (length nets) (fresh_rows board.chain)) c ∙
    ap
    (λ n. option_map (block_if (any_below (length board.chain) (hits_part board c)))
    (item_of_cell (note_nets nets n (fresh_rows board.chain)) c)) size ∙
    ap (option_map (block_if (any_below (length board.chain) (hits_part board c)))) (nets_row board c (length board.nets) h) ∙
    ap (λ b. Some (block_if b (noted board c (length board.nets)))) (hit_sided board c (cell_part board c h)) ∙
    ap (λ b. Some (let r : ControlClass = record { nets = driven_nets board c; safe = b; useful = false } in r)) (safe_alone_is board c)
