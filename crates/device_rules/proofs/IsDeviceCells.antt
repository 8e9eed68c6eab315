-- The entries of the boundary register: their cell numbers, their controls, and the number of entries of a cell.
use Rattle.std.proofs.Common.{◌≡◌, ℕ, ◌<◌, ◌≤◌, ◌==◌, Bool, true, false, not, ◌&&◌, ◌||◌, List, map, Option, Some, None, refl, sym, ◌∙◌, ap, subst, arith, ◌⊎◌, inl, inr}
use Rattle.std.specs.Prelude.{All, Contains, IfSome, count_by, nat_lt, if◌then◌else◌}
use Rattle.std.specs.List.{list_any}
use Rattle.std.proofs.lemmas.Bool.{or_parts, or_cases, and_parts, and_from, not-false, eqb-true, eq-eqb, ltb-false}
use Rattle.std.proofs.lemmas.List.Elements.{All-map}
use Rattle.lists.proofs.Booleans.{clash}
use Rattle.lists.proofs.ListLemmas.{list_any-map}
use Rattle.board_defs.specs.declared.device.Role.{Role}
use Rattle.board_defs.specs.declared.device.Role.TheVariants.{Input, Output2, Output3, Control as ControlRole, ControlR, Internal, Clock, Bidir, ObserveOnly}
use Rattle.board_defs.specs.declared.device.Control.{Control}
use Rattle.board_defs.specs.declared.device.Cell.{Cell}
use Rattle.board_defs.specs.DeviceRules.{is_loading, is_writing, is_controlling, is_driving, is_control_entry, MayHaveControl, ControlsStand, OneDisable, OneOf}
use Rattle.board_defs.proofs.Members.{Has, has_at, has_place, has_map, has_any, any_has, has_contains, all_from_has, has_from_all}
use Rattle.bsdl_strings.specs.declared.values.Entry.{Entry}
use Rattle.device_rules.specs.declared.draft.Draft.{Draft}
use Rattle.first_places.specs.Items.{or_else}
use Rattle.instruction_rules.specs.Instructions.{same_bit}
use Rattle.device_rules.specs.Cells.{is_entry_of, too_large, is_missing, v8, needs_control, is_entry_of_control, has_control_entry, breaks_control_of, breaks_control, v10, is_disabled_by, controls_entry, has_two_values, v11, loads_cell, writes_cell, is_crowded, v12}
use Rattle.device_rules.specs.Raw.{cell_of, raw_cells, raw_device}
use Rattle.device_rules.proofs.RuleLemmas.{holds, none_below}
use Rattle.device_rules.proofs.CellLemmas.{all_below, counts_here}
use Rattle.device_rules.proofs.IsDeviceCodes.{same_bits}
use Rattle.device_rules.proofs.IsDeviceLists.{holds_at, Made, made_at, counted_once}

pub cells_below : (draft : Draft) → v8 draft.boundary draft.entries ≡ None
    → All (λ entry. entry.num < draft.boundary) (raw_device draft).cells
unfolding raw_cells
cells_below draft e =
    All-map (λ (cell : Cell). cell.num < draft.boundary) (cell_of draft.ports) draft.entries
    (all_below draft.boundary draft.entries e)

second_none : (a b : Option ℕ) → or_else a b ≡ None → b ≡ None
second_none None b e = e
second_none (Some n) b e = cc e

entry_there : (boundary : ℕ) (entries : List Entry) → v8 boundary entries ≡ None → (cell : ℕ)
    → cell < boundary → list_any (is_entry_of cell) entries ≡ true
unfolding v8
entry_there boundary entries e cell less =
    not-false (list_any (is_entry_of cell) entries)
    (none_below (is_missing entries) boundary (second_none (too_large boundary entries) _ e) cell
    less)

pub cells_all : (draft : Draft) → v8 draft.boundary draft.entries ≡ None → (cell : ℕ)
    → cell < draft.boundary → Contains (map (λ entry. entry.num) (raw_device draft).cells) cell
unfolding raw_cells
cells_all draft e cell less =
    let r = any_has (is_entry_of cell) draft.entries (entry_there draft.boundary draft.entries e cell less) in
    let has : Has (map (λ (c : Cell). c.num) (map (cell_of draft.ports) draft.entries)) r.0.num =
    has_map (λ (c : Cell). c.num) (map (cell_of draft.ports) draft.entries)
    (cell_of draft.ports r.0) (has_map (cell_of draft.ports) draft.entries r.0 r.1) in
    let P : ℕ → Type 0 = λ n. Has (map (λ (c : Cell). c.num) (map (cell_of draft.ports) draft.entries)) n in
    has_contains (map (λ (c : Cell). c.num) (map (cell_of draft.ports) draft.entries)) cell (subst P (eqb-true r.0.num cell r.2) has)

control_kept : (entries : List Entry) → v10 entries ≡ None → (entry : Entry) → Has entries entry → breaks_control entries entry ≡ false
unfolding v10
control_kept entries e entry has =
    let r = has_place entries entry has in
    holds_at (λ before entry. breaks_control entries entry) entries
    (holds (λ before entry. breaks_control entries entry) entries e) r.0 entry r.1

none_given : (role : Role) → needs_control role ≡ false → MayHaveControl role None
none_given Input e = refl
none_given Output2 e = tt
none_given Output3 e = cc e
none_given ControlRole e = refl
none_given ControlR e = refl
none_given Internal e = refl
none_given Clock e = refl
none_given Bidir e = cc e
none_given ObserveOnly e = refl

some_given : (role : Role) (control : Control) → is_driving role ≡ true → MayHaveControl role (Some control)
some_given Input control e = cc e
some_given Output2 control e = tt
some_given Output3 control e = refl
some_given ControlRole control e = cc e
some_given ControlR control e = cc e
some_given Internal control e = cc e
some_given Clock control e = cc e
some_given Bidir control e = refl
some_given ObserveOnly control e = cc e

record Stands (entries : List Entry) (entry : Entry) (control : Control) : Type 0 where
  may : is_driving entry.role ≡ true
  stands : ((control.cell == entry.num) || has_control_entry entries control.cell) ≡ true

stands_of : (entries : List Entry) (entry : Entry) (control : Control)
    → breaks_control_of entries entry (Some control) ≡ false → Stands entries entry control
stands_of entries entry control e = by_test (is_driving entry.role) refl e
  where
    by_test : (b : Bool) → is_driving entry.role ≡ b
        → (if b then not ((control.cell == entry.num) || has_control_entry entries control.cell)
        else true) ≡ false → Stands entries entry control
    by_test true is kept =
        record {
          may = is;
          stands = not-false
              ((control.cell == entry.num) || has_control_entry entries control.cell) kept;
        }
    by_test false is kept = cc kept

stands_at : (entries : List Entry) → v10 entries ≡ None → (entry : Entry) → Has entries entry
    → (control : Control) → entry.ctl ≡ Some control → Stands entries entry control
stands_at entries e entry has control is =
    stands_of entries entry control
    (ap (breaks_control_of entries entry) (sym is) ∙ control_kept entries e entry has)

pub controls_given : (draft : Draft) → v10 draft.entries ≡ None
    → All (λ entry. MayHaveControl entry.role entry.ctl) (raw_device draft).cells
unfolding raw_cells
controls_given draft e = All-map (λ (cell : Cell). MayHaveControl cell.role cell.ctl) (cell_of draft.ports) draft.entries
    (all_from_has (λ (entry : Entry). MayHaveControl entry.role entry.ctl) draft.entries
    (λ entry has. by_control entry entry.ctl (control_kept draft.entries e entry has)))
  where
    by_control : (entry : Entry) (o : Option Control) → breaks_control_of draft.entries entry o ≡ false → MayHaveControl entry.role o
    by_control entry None kept = none_given entry.role kept
    by_control entry (Some control) kept = some_given entry.role control (stands_of draft.entries entry control kept).may

pub controls_stand : (draft : Draft) → v10 draft.entries ≡ None → ControlsStand (raw_device draft)
unfolding raw_cells
controls_stand draft e i cell control at is =
    let x : Made (cell_of draft.ports) draft.entries i cell = made_at (cell_of draft.ports) draft.entries i cell at in
    let stands =
    (stands_at draft.entries e x.from (has_at draft.entries i x.from x.at) control
    (ap (λ (c : Cell). c.ctl) x.gives ∙ is)).stands in
    ap (λ b. (control.cell == cell.num) || b) (list_any-map (cell_of draft.ports) (is_control_entry control.cell) draft.entries)
    ∙ (ap (λ n. (control.cell == n) || has_control_entry draft.entries control.cell) (sym (ap (λ (c : Cell). c.num) x.gives)) ∙ stands)

control_below : (boundary : ℕ) (entries : List Entry) → v8 boundary entries ≡ None
    → v10 entries ≡ None → (entry : Entry) → Has entries entry → (control : Control)
    → entry.ctl ≡ Some control → control.cell < boundary
control_below boundary entries e8 e10 entry has control is =
    by_part
    (or_cases (control.cell == entry.num) (has_control_entry entries control.cell)
    (stands_at entries e10 entry has control is).stands)
  where
    below : (other : Entry) → Has entries other → other.num < boundary
    below other k = has_from_all (λ (v : Entry). v.num < boundary) entries other (all_below boundary entries e8) k

    by_part : ((control.cell == entry.num) ≡ true) ⊎ (has_control_entry entries control.cell ≡ true) → control.cell < boundary
    by_part (inl own) = omega (arith, eqb-true control.cell entry.num own, below entry has)
    by_part (inr other) =
        let r = any_has (is_entry_of_control control.cell) entries other in
        let same : r.0.num
        ≡ control.cell = eqb-true r.0.num control.cell
        (and_parts (r.0.num == control.cell) (is_controlling r.0.role) r.2).0 in
        omega (arith, same, below r.0 r.1)

pub controls_below : (draft : Draft) → v8 draft.boundary draft.entries ≡ None
    → v10 draft.entries ≡ None
    → All (λ entry. IfSome entry.ctl (λ control. control.cell < draft.boundary))
    (raw_device draft).cells
unfolding raw_cells
controls_below draft e8 e10 =
    All-map (λ (cell : Cell). IfSome cell.ctl (λ control. control.cell < draft.boundary))
    (cell_of draft.ports) draft.entries
    (all_from_has (λ (entry : Entry). IfSome entry.ctl (λ control. control.cell < draft.boundary))
    draft.entries (λ entry has. by_control entry has entry.ctl refl))
  where
    by_control : (entry : Entry) → Has draft.entries entry → (o : Option Control) → entry.ctl ≡ o
        → IfSome o (λ control. control.cell < draft.boundary)
    by_control entry has None is = tt
    by_control entry has (Some control) is = control_below draft.boundary draft.entries e8 e10 entry has control is

disables : (entries : List Entry) (entry : Entry) → Has entries entry → (control : Control)
    → entry.ctl ≡ Some control → (cell : ℕ) → control.cell ≡ cell → (value : Bool)
    → control.disable ≡ value → list_any (controls_entry value cell) entries ≡ true
disables entries entry has control is cell same value disable =
    has_any (controls_entry value cell) entries entry has
    (ap (is_disabled_by value cell) is
    ∙ and_from (control.cell == cell) (same_bit control.disable value)
    (eq-eqb control.cell cell same) (ap (λ b. same_bit b value) disable ∙ same_bits value))

two_values : (boundary : ℕ) (entries : List Entry) → v11 boundary entries ≡ None → (cell : ℕ)
    → cell < boundary → has_two_values entries cell ≡ false
unfolding v11
two_values boundary entries e cell less = none_below (has_two_values entries) boundary e cell less

pub one_disable : (draft : Draft) → v8 draft.boundary draft.entries ≡ None
    → v10 draft.entries ≡ None → v11 draft.boundary draft.entries ≡ None
    → OneDisable (raw_device draft)
unfolding raw_cells
one_disable draft e8 e10 e11 i j e d a b at_i at_j is_a is_b same =
    let x : Made (cell_of draft.ports) draft.entries i e = made_at (cell_of draft.ports) draft.entries i e at_i in
    let y : Made (cell_of draft.ports) draft.entries j d = made_at (cell_of draft.ports) draft.entries j d at_j in
    by_value x.from y.from (has_at draft.entries i x.from x.at) (has_at draft.entries j y.from y.at)
    (ap (λ (c : Cell). c.ctl) x.gives ∙ is_a) (ap (λ (c : Cell). c.ctl) y.gives ∙ is_b)
    a.disable b.disable refl refl
  where
    by_value : (x y : Entry) → Has draft.entries x → Has draft.entries y → x.ctl ≡ Some a
        → y.ctl ≡ Some b → (p q : Bool) → a.disable ≡ p → b.disable ≡ q → p ≡ q
    by_value x y has_x has_y ctl_x ctl_y true true is_p is_q = refl
    by_value x y has_x has_y ctl_x ctl_y false false is_p is_q = refl
    by_value x y has_x has_y ctl_x ctl_y true false is_p is_q =
        absurd (clash (has_two_values draft.entries a.cell)
        (and_from (list_any (controls_entry true a.cell) draft.entries)
        (list_any (controls_entry false a.cell) draft.entries)
        (disables draft.entries x has_x a ctl_x a.cell refl true is_p)
        (disables draft.entries y has_y b ctl_y a.cell (sym same) false is_q))
        (two_values draft.boundary draft.entries e11 a.cell (control_below draft.boundary draft.entries e8 e10 x has_x a ctl_x)))
    by_value x y has_x has_y ctl_x ctl_y false true is_p is_q =
        absurd (clash (has_two_values draft.entries a.cell)
        (and_from (list_any (controls_entry true a.cell) draft.entries)
        (list_any (controls_entry false a.cell) draft.entries)
        (disables draft.entries y has_y b ctl_y a.cell (sym same) true is_q)
        (disables draft.entries x has_x a ctl_x a.cell refl false is_p))
        (two_values draft.boundary draft.entries e11 a.cell (control_below draft.boundary draft.entries e8 e10 x has_x a ctl_x)))

-- a cell has at most one entry that defines what the cell captures, and at most one that takes its value from the
-- cell's update latch
record IsSparse (entries : List Entry) (cell : ℕ) : Type 0 where
  loads : count_by (loads_cell cell) entries ≤ 1
  writes : count_by (writes_cell cell) entries ≤ 1

is_sparse : (boundary : ℕ) (entries : List Entry) → v12 boundary entries ≡ None → (cell : ℕ) → cell < boundary → IsSparse entries cell
unfolding v12
is_sparse boundary entries e cell less =
    let parts = or_parts (nat_lt 1 (count_by (loads_cell cell) entries))
    (nat_lt 1 (count_by (writes_cell cell) entries))
    (none_below (is_crowded entries) boundary e cell less) in
    record {
      loads = ltb-false 1 (count_by (loads_cell cell) entries) parts.0;
      writes = ltb-false 1
          (count_by (writes_cell cell) entries) parts.1;
    }

one_of : (kind : Role → Bool) (draft : Draft) → v8 draft.boundary draft.entries ≡ None
    → ((cell : ℕ) → cell < draft.boundary
    → count_by (λ (entry : Entry). is_entry_of cell entry && kind entry.role) draft.entries
    ≤ 1) → OneOf kind (raw_device draft)
unfolding raw_cells
one_of kind draft e8 few i j e d at_i at_j kind_e kind_d same =
    let x : Made (cell_of draft.ports) draft.entries i e = made_at (cell_of draft.ports) draft.entries i e at_i in
    let y : Made (cell_of draft.ports) draft.entries j d = made_at (cell_of draft.ports) draft.entries j d at_j in
    let number : y.from.num ≡ x.from.num = ap (λ (c : Cell). c.num) y.gives ∙ (sym same ∙ sym (ap (λ (c : Cell). c.num) x.gives)) in
    let counts_x : (is_entry_of x.from.num x.from && kind x.from.role)
    ≡ true = counts_here kind x.from (ap (λ (c : Cell). kind c.role) x.gives ∙ kind_e) in
    let counts_y : (is_entry_of y.from.num y.from && kind y.from.role)
    ≡ true = counts_here kind y.from (ap (λ (c : Cell). kind c.role) y.gives ∙ kind_d) in
    let below : x.from.num
    < draft.boundary = has_from_all (λ (v : Entry). v.num < draft.boundary) draft.entries x.from
    (all_below draft.boundary draft.entries e8) (has_at draft.entries i x.from x.at) in
    counted_once (λ (entry : Entry). is_entry_of x.from.num entry && kind entry.role) draft.entries
    i j x.from y.from (few x.from.num below) x.at y.at counts_x
    (ap (λ n. is_entry_of n y.from && kind y.from.role) (sym number) ∙ counts_y)

pub one_loading : (draft : Draft) → v8 draft.boundary draft.entries ≡ None
    → v12 draft.boundary draft.entries ≡ None → OneOf is_loading (raw_device draft)
one_loading draft e8 e12 = one_of is_loading draft e8 (λ cell less. (is_sparse draft.boundary draft.entries e12 cell less).loads)

pub one_writing : (draft : Draft) → v8 draft.boundary draft.entries ≡ None
    → v12 draft.boundary draft.entries ≡ None → OneOf is_writing (raw_device draft)
one_writing draft e8 e12 = one_of is_writing draft e8 (λ cell less. (is_sparse draft.boundary draft.entries e12 cell less).writes)
