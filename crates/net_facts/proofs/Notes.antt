-- Lemmas about what the table of controls has after the drivers of the nets are added.
use Rattle.std.proofs.Common.{◌≡◌, ◌≢◌, ℕ, zero, suc, ◌-◌, ◌<◌, ◌==◌, Bool, true, false, not, ◌&&◌, ◌||◌, List, [], ◌∷◌, ◌++◌, length, Option, Some, None, refl, sym, ◌∙◌, ap, subst, arith, length-append, cond}
use Rattle.std.specs.Prelude.{slice_get, option_map, option_and_then}
use Rattle.std.specs.List.{list_any}
use Rattle.std.proofs.lemmas.Bool.{false_from_ne_true, eqb-true, and_from}
use Rattle.std.proofs.Math.Bool.{and-true, and-false}
use Rattle.lists.proofs.Booleans.{clash, eqb_refl}
use Rattle.board_defs.specs.declared.board.Ctl.{Ctl}
use Rattle.board_defs.specs.declared.board.Drive.{Drive}
use Rattle.board_defs.specs.declared.board.Drive.TheVariants.{AlwaysOn, OneSided, By}
use Rattle.board_defs.specs.Settings.{same_ctl}
use Rattle.board_defs.specs.Decided.{is_by, at_most_one}
use Rattle.board_defs.proofs.ControlOrder.{same_equal}
use Rattle.net_facts.specs.declared.facts.PinFacts.{PinFacts}
use Rattle.net_facts.specs.declared.classes.ControlClass.{ControlClass}
use Rattle.net_facts.specs.Cells.{item_of_cell, update_at, at_control}
use Rattle.net_facts.specs.inner.Rows.{with_one_driver, ends_with, is_net_number, note_drive, note_pins}

pub get_update_same : {X : Type 0} (i : ℕ) (f : X → X) (xs : List X) → slice_get (update_at i f xs) i ≡ option_map f (slice_get xs i)
get_update_same i f [] = refl
get_update_same zero f (x ∷ xs) = refl
get_update_same (suc i) f (x ∷ xs) = get_update_same i f xs

pub get_update_other : {X : Type 0} (i j : ℕ) (f : X → X) (xs : List X) → i ≢ j → slice_get (update_at i f xs) j ≡ slice_get xs j
get_update_other i j f [] ne = refl
get_update_other zero zero f (x ∷ xs) ne = absurd (ne refl)
get_update_other zero (suc j) f (x ∷ xs) ne = refl
get_update_other (suc i) zero f (x ∷ xs) ne = refl
get_update_other (suc i) (suc j) f (x ∷ xs) ne = get_update_other i j f xs (λ e. ne (ap suc e))

get_in_part : {X : Type 0} (i j : ℕ) (f : X → X) (row : Option (List X)) → i ≢ j
    → option_and_then (λ r. slice_get r j) (option_map (update_at i f) row)
    ≡ option_and_then (λ r. slice_get r j) row
get_in_part i j f None ne = refl
get_in_part i j f (Some r) ne = get_update_other i j f r ne

get_in_same : {X : Type 0} (i : ℕ) (f : X → X) (row : Option (List X))
    → option_and_then (λ r. slice_get r i) (option_map (update_at i f) row)
    ≡ option_map f (option_and_then (λ r. slice_get r i) row)
get_in_same i f None = refl
get_in_same i f (Some r) = get_update_same i f r

pub at_same : {X : Type 0} (c : Ctl) (f : X → X) (rows : List (List X))
    → item_of_cell (at_control c f rows) c ≡ option_map f (item_of_cell rows c)
at_same c f rows =
    ap (option_and_then (λ r. slice_get r c.cell))
    (get_update_same c.part (update_at c.cell f) rows)
    ∙ get_in_same c.cell f (slice_get rows c.part)

pub at_other : {X : Type 0} (c d : Ctl) (f : X → X) (rows : List (List X)) → same_ctl c d ≡ false
    → item_of_cell (at_control c f rows) d ≡ item_of_cell rows d
at_other {X} c d f rows h = by_part (c.part == d.part) refl
  where
    by_part : (t : Bool) → (c.part == d.part) ≡ t → item_of_cell (at_control c f rows) d ≡ item_of_cell rows d
    by_part false e =
        ap (option_and_then (λ r. slice_get r d.cell))
        (get_update_other c.part d.part (update_at c.cell f) rows
        (λ k. clash (c.part == d.part) (ap (λ n. c.part == n) (sym k) ∙ eqb_refl c.part) e))
    by_part true e =
        let same : c.part ≡ d.part = eqb-true c.part d.part e in
        let ne : c.cell
        ≢ d.cell = λ k. clash (same_ctl c d)
        (and_from (c.part == d.part) (c.cell == d.cell) e
        (ap (λ n. c.cell == n) (sym k) ∙ eqb_refl c.cell)) h in
        let P : ℕ
        → Type 0 = λ n. option_and_then (λ r. slice_get r d.cell)
        (slice_get (update_at c.part (update_at c.cell f) rows) n)
        ≡ option_and_then (λ r. slice_get r d.cell) (slice_get rows n) in
        subst P same
        (ap (option_and_then (λ r. slice_get r d.cell))
        (get_update_same c.part (update_at c.cell f) rows)
        ∙ get_in_part c.cell d.cell f (slice_get rows c.part) ne)

pub map_same : (o : Option ControlClass) → option_map (λ r. r) o ≡ o
map_same None = refl
map_same (Some r) = refl

get_appended : (xs : List ℕ) (n : ℕ) → slice_get (xs ++ n ∷ []) (length xs) ≡ Some n
get_appended [] n = refl
get_appended (x ∷ xs) n = get_appended xs n

appended_length : (xs : List ℕ) (n : ℕ) → length (xs ++ n ∷ []) - 1 ≡ length xs
appended_length xs n = omega (arith, length-append xs (n ∷ []))

pub ends_appended : (xs : List ℕ) (n : ℕ) → ends_with (xs ++ n ∷ []) n ≡ true
ends_appended xs n =
    ap (λ k. is_net_number n (slice_get (xs ++ n ∷ []) k)) (appended_length xs n)
    ∙ ap (is_net_number n) (get_appended xs n) ∙ eqb_refl n

pub ends_other : (xs : List ℕ) (m n : ℕ) → m < n → ends_with (xs ++ m ∷ []) n ≡ false
ends_other xs m n h =
    ap (λ k. is_net_number n (slice_get (xs ++ m ∷ []) k)) (appended_length xs m)
    ∙ ap (is_net_number n) (get_appended xs m)
    ∙ false_from_ne_true (m == n) (λ e. let same : m ≡ n = eqb-true m n e in omega arith)

-- the item of control `c` after the drivers on these pins of net `n` are added
abbrev pub run : ℕ → Bool → Ctl → List PinFacts → ControlClass → ControlClass
run n closed c [] row = row
run n closed c (pin ∷ pins) row = run n closed c pins (cond (is_by c pin.drive) (with_one_driver n closed row) row)

by_swap : (c d : Ctl) → is_by d (Some (By c)) ≡ same_ctl c d
by_swap c d = refl

step_row : (n : ℕ) (closed : Bool) (d : Option Drive) (rows : List (List ControlClass)) (c : Ctl)
    → item_of_cell (note_drive n closed d rows) c
    ≡ option_map (λ r. cond (is_by c d) (with_one_driver n closed r) r) (item_of_cell rows c)
step_row n closed None rows c = sym (map_same (item_of_cell rows c))
step_row n closed (Some AlwaysOn) rows c = sym (map_same (item_of_cell rows c))
step_row n closed (Some OneSided) rows c = sym (map_same (item_of_cell rows c))
step_row n closed (Some (By b)) rows c = by_same (same_ctl b c) refl
  where
    by_same : (t : Bool) → same_ctl b c ≡ t
        → item_of_cell (at_control b (with_one_driver n closed) rows) c
        ≡ option_map (λ r. cond (same_ctl b c) (with_one_driver n closed r) r)
        (item_of_cell rows c)
    by_same true e =
        let same : b ≡ c = same_equal b c e in
        ap (λ x. item_of_cell (at_control x (with_one_driver n closed) rows) c) same
        ∙ at_same c (with_one_driver n closed) rows
        ∙ ap
        (λ (t : Bool). option_map
        (λ (r : ControlClass). cond t (with_one_driver n closed r) r)
        (item_of_cell rows c)) (sym e)
    by_same false e =
        at_other b c (with_one_driver n closed) rows e ∙ sym (map_same (item_of_cell rows c))
        ∙ ap
        (λ (t : Bool). option_map (λ (r : ControlClass). cond t (with_one_driver n closed r) r)
        (item_of_cell rows c)) (sym e)

map_map : (f g : ControlClass → ControlClass) (o : Option ControlClass) → option_map g (option_map f o) ≡ option_map (λ r. g (f r)) o
map_map f g None = refl
map_map f g (Some r) = refl

pub pins_row : (n : ℕ) (closed : Bool) (pins : List PinFacts) (rows : List (List ControlClass))
    (c : Ctl)
    → item_of_cell (note_pins n closed rows pins) c
    ≡ option_map (run n closed c pins) (item_of_cell rows c)
pins_row n closed [] rows c = sym (map_same (item_of_cell rows c))
pins_row n closed (pin ∷ pins) rows c =
    pins_row n closed pins (note_drive n closed pin.drive rows) c ∙
    ap (option_map (run n closed c pins)) (step_row n closed pin.drive rows c) ∙
    map_map (λ r. cond (is_by c pin.drive) (with_one_driver n closed r) r) (run n closed c pins) (item_of_cell rows c)

abbrev pub by_pin : Ctl → PinFacts → Bool
by_pin c pin = is_by c pin.drive

abbrev row_with : ControlClass → List ℕ → Bool → ControlClass
row_with row nets safe = record { nets = nets; safe = safe; useful = row.useful }

-- If net `n` is the last net of a control already, further drivers of this control on net `n` make the control unsafe and change nothing
-- else.
pub run_again : (n : ℕ) (closed : Bool) (c : Ctl) (pins : List PinFacts) (row : ControlClass)
    → ends_with row.nets n ≡ true
    → run n closed c pins row ≡ row_with row row.nets (row.safe && not (list_any (by_pin c) pins))
run_again n closed c [] row h = ap (λ b. row_with row row.nets b) (sym (and-true row.safe))
run_again n closed c (pin ∷ pins) row h =
    by_head (is_by c pin.drive) refl (run_again n closed c pins row h)
    (run_again n closed c pins (row_with row row.nets false) h)
  where
    by_head : (t : Bool) → is_by c pin.drive ≡ t
        → run n closed c pins row
        ≡ row_with row row.nets (row.safe && not (list_any (by_pin c) pins))
        → run n closed c pins (row_with row row.nets false) ≡ row_with row row.nets false →
        run n closed c pins (cond (is_by c pin.drive) (with_one_driver n closed row) row)
        ≡ row_with row row.nets
        (row.safe && not (is_by c pin.drive || list_any (by_pin c) pins))
    by_head false e plain twice =
        ap (λ t. run n closed c pins (cond t (with_one_driver n closed row) row)) e ∙ plain
        ∙ ap (λ t. row_with row row.nets (row.safe && not (t || list_any (by_pin c) pins))) (sym e)
    by_head true e plain twice =
        ap (λ t. run n closed c pins (cond t (with_one_driver n closed row) row)) e ∙
        ap
        (λ t. run n closed c pins
        (cond t (row_with row row.nets false)
        (row_with row (row.nets ++ n ∷ []) (row.safe && not closed)))) h ∙
        twice ∙
        ap (λ t. row_with row row.nets t) (sym (and-false row.safe)) ∙
        ap (λ t. row_with row row.nets (row.safe && not (t || list_any (by_pin c) pins))) (sym e)

-- the item of a control without net `n`, after the drivers on these pins of net `n` are added
abbrev pub after_net : ℕ → Bool → Ctl → List PinFacts → ControlClass → ControlClass
after_net n closed c pins row =
    cond (list_any (by_pin c) pins)
    (record {
      nets = row.nets ++ n ∷ [];
      safe = row.safe && not closed
          && at_most_one (by_pin c) pins;
      useful = row.useful;
    }) row

pub run_first : (n : ℕ) (closed : Bool) (c : Ctl) (pins : List PinFacts) (row : ControlClass)
    → ends_with row.nets n ≡ false → run n closed c pins row ≡ after_net n closed c pins row
run_first n closed c [] row h = refl
run_first n closed c (pin ∷ pins) row h = by_head (is_by c pin.drive) refl (run_first n closed c pins row h)
  where
    next : ControlClass
    next = row_with row (row.nets ++ n ∷ []) (row.safe && not closed)

    by_head : (t : Bool) → is_by c pin.drive ≡ t
        → run n closed c pins row ≡ after_net n closed c pins row
        → run n closed c pins (cond (is_by c pin.drive) (with_one_driver n closed row) row) ≡
        cond (is_by c pin.drive || list_any (by_pin c) pins)
        (row_with row (row.nets ++ n ∷ [])
        (row.safe && not closed
        && cond (is_by c pin.drive) (not (list_any (by_pin c) pins))
        (at_most_one (by_pin c) pins))) row
    by_head false e plain =
        ap (λ t. run n closed c pins (cond t (with_one_driver n closed row) row)) e ∙ plain ∙
        ap
        (λ t. cond (t || list_any (by_pin c) pins)
        (row_with row (row.nets ++ n ∷ [])
        (row.safe && not closed
        && cond t (not (list_any (by_pin c) pins)) (at_most_one (by_pin c) pins))) row) (sym e)
    by_head true e plain =
        ap (λ t. run n closed c pins (cond t (with_one_driver n closed row) row)) e ∙
        ap (λ t. run n closed c pins (cond t (row_with row row.nets false) next)) h ∙
        run_again n closed c pins next (ends_appended row.nets n) ∙
        ap
        (λ t. cond (t || list_any (by_pin c) pins)
        (row_with row (row.nets ++ n ∷ [])
        (row.safe && not closed
        && cond t (not (list_any (by_pin c) pins)) (at_most_one (by_pin c) pins))) row) (sym e)
