-- Lemmas about what the table of controls has after the useful controls are marked. A control is useful if it
-- is safe alone and enables a tested driver.
use Rattle.std.proofs.Common.{◌≡◌, Bool, true, false, ◌||◌, List, [], ◌∷◌, map, length, Option, Some, None, refl, sym, ◌∙◌, ap}
use Rattle.std.specs.Prelude.{option_map, filter, fold}
use Rattle.std.specs.List.{list_any}
use Rattle.std.proofs.lemmas.Bool.{and_from}
use Rattle.std.proofs.Math.Bool.{or-false}
use Rattle.lists.proofs.Booleans.{same_truth, and_left, and_right}
use Rattle.lists.proofs.ListLemmas.{list_any-map}
use Rattle.board_defs.specs.declared.board.Net.{Net}
use Rattle.board_defs.specs.declared.board.Ctl.{Ctl}
use Rattle.board_defs.specs.declared.board.RawBoard.{RawBoard}
use Rattle.board_defs.specs.declared.board.Drive.{Drive}
use Rattle.board_defs.specs.declared.board.Drive.TheVariants.{AlwaysOn, OneSided, By}
use Rattle.board_defs.specs.BoardRules.{IsBoard}
use Rattle.board_defs.specs.Pins.{IsCell}
use Rattle.board_defs.specs.Settings.{same_ctl}
use Rattle.board_defs.specs.Decided.{is_by, is_safe_alone, can_enable, place_drive, is_tested_driver, tests_by, tests_by_at, is_useful}
use Rattle.board_defs.specs.Passes.{all_cells, tested_drivers, useful_controls}
use Rattle.board_defs.proofs.ControlOrder.{same_equal}
use Rattle.board_defs.proofs.Driving.{by_true, is_by_drive}
use Rattle.board_defs.proofs.Members.{Has, any_has, has_any}
use Rattle.board_defs.proofs.Places.{Found, any_place, any_at, FoundBelow, below_place, below_at}
use Rattle.board_defs.proofs.Covered.{tested_below}
use Rattle.board_defs.proofs.PassesKept.{Tested, tested_has, has_tested, tested_can_drive}
use Rattle.net_facts.specs.declared.classes.NetClass.{NetClass}
use Rattle.net_facts.specs.declared.classes.ControlClass.{ControlClass}
use Rattle.net_facts.specs.Cells.{item_of_cell, at_control}
use Rattle.net_facts.specs.Kept.{net_class_of, control_class_of, driven_nets}
use Rattle.net_facts.specs.Facts.{net_facts_of}
use Rattle.net_facts.specs.declared.facts.NetFacts.{NetFacts}
use Rattle.net_facts.specs.inner.Rows.{useful_too, mark_drive, mark_nets, made_rows}
use Rattle.net_facts.specs.inner.Answers.{has_use, useful_in, is_safe_class, class_in}
use Rattle.net_facts.proofs.Notes.{at_same, at_other}
use Rattle.net_facts.proofs.Made.{made_row, row_before}
use Rattle.net_facts.proofs.Answered.{SaysSafe, classes_are}
use Rattle.net_facts.proofs.UsefulLemmas.{has_cell, filter_on}

abbrev mark_if : Bool → ControlClass → ControlClass
mark_if b row = record { nets = row.nets; safe = row.safe; useful = b || row.useful }

mark_none : (o : Option ControlClass) → o ≡ option_map (mark_if false) o
mark_none None = refl
mark_none (Some row) = refl

mark_some : (o : Option ControlClass) → option_map useful_too o ≡ option_map (mark_if true) o
mark_some None = refl
mark_some (Some row) = refl

mark_join : (a b : Bool) (o : Option ControlClass) → option_map (mark_if b) (option_map (mark_if a) o) ≡ option_map (mark_if (a || b)) o
mark_join a b None = refl
mark_join true true (Some row) = refl
mark_join true false (Some row) = refl
mark_join false b (Some row) = refl

abbrev by_drive : Ctl → Drive → Bool
by_drive c d = is_by c (Some d)

drive_row : (d : Drive) (rows : List (List ControlClass)) (c : Ctl)
    → item_of_cell (mark_drive rows d) c ≡ option_map (mark_if (by_drive c d)) (item_of_cell rows c)
drive_row AlwaysOn rows c = mark_none (item_of_cell rows c)
drive_row OneSided rows c = mark_none (item_of_cell rows c)
drive_row (By b) rows c = by_same (same_ctl b c) refl
  where
    by_same : (t : Bool) → same_ctl b c ≡ t
        → item_of_cell (at_control b useful_too rows) c
        ≡ option_map (mark_if (same_ctl b c)) (item_of_cell rows c)
    by_same true e =
        ap (λ (x : Ctl). item_of_cell (at_control x useful_too rows) c) (same_equal b c e)
        ∙ at_same c useful_too rows ∙ mark_some (item_of_cell rows c)
        ∙ ap (λ t. option_map (mark_if t) (item_of_cell rows c)) (sym e)
    by_same false e =
        at_other b c useful_too rows e ∙ mark_none (item_of_cell rows c)
        ∙ ap (λ t. option_map (mark_if t) (item_of_cell rows c)) (sym e)

drivers_row : (ds : List Drive) (rows : List (List ControlClass)) (c : Ctl)
    → item_of_cell (fold mark_drive rows ds) c
    ≡ option_map (mark_if (list_any (by_drive c) ds)) (item_of_cell rows c)
drivers_row [] rows c = mark_none (item_of_cell rows c)
drivers_row (d ∷ ds) rows c =
    drivers_row ds (mark_drive rows d) c ∙
    ap (option_map (mark_if (list_any (by_drive c) ds))) (drive_row d rows c) ∙
    mark_join (by_drive c d) (list_any (by_drive c) ds) (item_of_cell rows c)

abbrev by_net : Ctl → NetClass → Bool
by_net c net = list_any (by_drive c) net.drivers

marks_row : (nets : List NetClass) (rows : List (List ControlClass)) (c : Ctl)
    → item_of_cell (mark_nets rows nets) c
    ≡ option_map (mark_if (list_any (by_net c) nets)) (item_of_cell rows c)
marks_row [] rows c = mark_none (item_of_cell rows c)
marks_row (net ∷ nets) rows c =
    marks_row nets (fold mark_drive rows net.drivers) c ∙
    ap (option_map (mark_if (list_any (by_net c) nets))) (drivers_row net.drivers rows c) ∙
    mark_join (by_net c net) (list_any (by_net c) nets) (item_of_cell rows c)

-- A control enables a tested driver if and only if it is useful, since a control that enables a tested driver is safe alone.
pub useful_is : (board : RawBoard) (c : Ctl)
    → list_any (λ net. list_any (by_drive c) (tested_drivers board net)) board.nets
    ≡ is_useful board c
useful_is board c = same_truth (list_any some board.nets) (is_useful board c) there back
  where
    some : Net → Bool
    some net = list_any (by_drive c) (tested_drivers board net)

    there : list_any some board.nets ≡ true → is_useful board c ≡ true
    there h =
        let r : Found some board.nets = any_place some board.nets h in
        let d : (x : Drive) × Has (tested_drivers board r.item) x
        × (by_drive c x ≡ true) = any_has (by_drive c) (tested_drivers board r.item) r.passes in
        let t : Tested board r.item d.0 = tested_has board r.item d.0 d.1 in
        let by : Some d.0 ≡ Some (By c) = by_true c (Some d.0) d.2 in
        and_from (is_safe_alone board c) (list_any (tests_by board c) board.nets)
        (sym (ap (can_enable board) by) ∙ tested_can_drive board r.item d.0 t)
        (any_at (tests_by board c) board.nets r.place r.item r.stands
        (below_at (length r.item.pins) (tests_by_at board c r.item) t.place (tested_below board r.item t.place t.tested)
        (and_from (is_by c (place_drive board r.item t.place))
        (is_tested_driver board r.item t.place) (ap (is_by c) t.drives ∙ d.2) t.tested)))

    back : is_useful board c ≡ true → list_any some board.nets ≡ true
    back h =
        let r : Found (tests_by board c) board.nets = any_place (tests_by board c) board.nets
        (and_right (is_safe_alone board c) (list_any (tests_by board c) board.nets) h) in
        let t : FoundBelow (length r.item.pins) (tests_by_at board c r.item) = below_place
        (length r.item.pins) (tests_by_at board c r.item) r.passes in
        let is : is_by c (place_drive board r.item t.number)
        ≡ true = and_left (is_by c (place_drive board r.item t.number))
        (is_tested_driver board r.item t.number) t.passes in
        let tested : is_tested_driver board r.item t.number
        ≡ true = and_right (is_by c (place_drive board r.item t.number))
        (is_tested_driver board r.item t.number) t.passes in
        let drives : place_drive board r.item t.number ≡ Some (By c) = by_true c (place_drive board r.item t.number) is in
        any_at some board.nets r.place r.item r.stands
        (has_any (by_drive c) (tested_drivers board r.item) (By c)
        (has_tested board r.item t.number (By c) tested drives)
        (is_by_drive c (Some (By c)) refl))

marked_row : (board : RawBoard) (rows : List (List ControlClass)) (c : Ctl)
    → item_of_cell rows c ≡ Some (row_before board c)
    → item_of_cell (mark_nets rows (map (net_class_of board) board.nets)) c
    ≡ Some (control_class_of board c)
marked_row board rows c h =
    marks_row (map (net_class_of board) board.nets) rows c ∙
    ap (option_map (mark_if (list_any (by_net c) (map (net_class_of board) board.nets)))) h ∙
    ap (λ b. Some (let r : ControlClass = record { nets = driven_nets board c; safe = is_safe_alone board c; useful = b } in r))
    (or-false (list_any (by_net c) (map (net_class_of board) board.nets))
    ∙ list_any-map (net_class_of board) (by_net c) board.nets ∙ useful_is board c)

-- `nets`, `controls` and `useful` have the facts about the nets and controls of the board
pub record Made (board : RawBoard) (nets : List NetClass) (controls : List (List ControlClass)) (useful : List Ctl) : Type 0 where
  pub nets_are : nets ≡ map (net_class_of board) board.nets
  pub controls_are : (c : Ctl) → IsCell board c → item_of_cell controls c ≡ Some (control_class_of board c)
  pub useful_are : useful ≡ useful_controls board

pub made_of : (board : RawBoard) (facts : List NetFacts) (before after : List (List ControlClass))
    (nets : List NetClass) (useful : List Ctl) → IsBoard board
    → facts ≡ map (net_facts_of board) board.nets → before ≡ made_rows board facts
    → nets ≡ map (class_in before) facts → after ≡ mark_nets before nets
    → useful ≡ filter (useful_in after) (all_cells board) → Made board nets after useful
made_of board facts before after nets useful rules e f g h k = record {
  nets_are = nets_are;
  controls_are = controls_are;
  useful_are =
      k
      ∙ filter_on (useful_in after) (is_useful board) (all_cells board)
      (λ c has. ap has_use (controls_are c (has_cell board c has)));
}
  where
    before_is : before ≡ made_rows board (map (net_facts_of board) board.nets)
    before_is = f ∙ ap (made_rows board) e

    row_is : (c : Ctl) → IsCell board c → item_of_cell before c ≡ Some (row_before board c)
    row_is c is = ap (λ rows. item_of_cell rows c) before_is ∙ made_row board c is

    says : SaysSafe board before
    says c is = ap is_safe_class (row_is c is)

    nets_are : nets ≡ map (net_class_of board) board.nets
    nets_are = g ∙ ap (map (class_in before)) e ∙ classes_are board before rules says

    controls_are : (c : Ctl) → IsCell board c → item_of_cell after c ≡ Some (control_class_of board c)
    controls_are c is = ap (λ rows. item_of_cell rows c) (h ∙ ap (mark_nets before) nets_are) ∙ marked_row board before c (row_is c is)
