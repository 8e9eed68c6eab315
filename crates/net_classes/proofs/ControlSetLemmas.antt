-- Lemmas about sets of controls, which have marks and a list of members.
use Rattle.std.proofs.Common.{◌≡◌, inl, inr, Bool, true, false, ◌||◌, List, [], ◌∷◌, ◌++◌, map, Contains, Option, Some, None, refl, sym, ◌∙◌, ap, subst}
use Rattle.std.specs.Prelude.{slice_get, option_map, option_and_then, is_some}
use Rattle.std.proofs.Math.Bool.{or-false, or-true}
use Rattle.std.proofs.lemmas.Option.{slice_get-map}
use Rattle.lists.proofs.Booleans.{clash}
use Rattle.board_defs.specs.declared.board.Ctl.{Ctl}
use Rattle.board_defs.specs.declared.board.RawBoard.{RawBoard}
use Rattle.board_defs.specs.Pins.{IsCell}
use Rattle.board_defs.specs.Settings.{same_ctl}
use Rattle.board_defs.proofs.ControlOrder.{same_equal, same_refl}
use Rattle.board_defs.proofs.Members.{Has, has_contains, contains_has, has_left, has_right}
use Rattle.net_classes.specs.declared.control_sets.ControlSet.{ControlSet}
use Rattle.net_facts.specs.Cells.{filled_with, put, item_of_cell, table, at_control, holds_there}
use Rattle.net_classes.specs.inner.ControlSets.{IsSet, has_control, put_all}
use Rattle.net_facts.proofs.Notes.{at_same, at_other}

pub filled_item : {X Y : Type 0} (item : Y) (rows : List (List X)) (c : Ctl)
    → is_some (item_of_cell rows c) ≡ true → item_of_cell (filled_with item rows) c ≡ Some item
filled_item {X} {Y} item rows c h =
    ap (option_and_then (λ row. slice_get row c.cell))
    (slice_get-map (map (λ before. item)) rows c.part) ∙ by_row (slice_get rows c.part) h
  where
    by_item : (before : Option X) → is_some before ≡ true → option_map (λ before. item) before ≡ Some item
    by_item None k = cc k
    by_item (Some before) k = refl

    by_row : (row : Option (List X))
        → is_some (option_and_then (λ r. slice_get r c.cell) row) ≡ true
        → option_and_then (λ r. slice_get r c.cell) (option_map (map (λ before. item)) row)
        ≡ Some item
    by_row None k = cc k
    by_row (Some row) k = slice_get-map (λ before. item) row c.cell ∙ by_item (slice_get row c.cell) k

pub empty_set : (board : RawBoard) (set : ControlSet)
    → ((c : Ctl) → IsCell board c → item_of_cell (table set.marks.items) c ≡ Some false)
    → IsSet board (λ c. false) set
empty_set board set blank = record { marks_are = blank; members_are = λ c is h. cc h }

pub same_set : (board : RawBoard) (p q : Ctl → Bool) (set : ControlSet) → ((c : Ctl) → p c ≡ q c) → IsSet board p set → IsSet board q set
same_set board p q set same is =
    record {
      marks_are = λ c cell. is.marks_are c cell
          ∙ ap Some (same c);
      members_are = λ c cell h. is.members_are c cell (same c ∙ h);
    }

pub put_item : {X : Type 0} (c d : Ctl) (item before : X) (rows : List (List X))
    → item_of_cell rows d ≡ Some before
    → (same_ctl c d ≡ true → item_of_cell (at_control c (put item) rows) d ≡ Some item)
    × (same_ctl c d ≡ false → item_of_cell (at_control c (put item) rows) d ≡ Some before)
put_item c d item before rows h = (
  λ same. ap (λ (x : Ctl). item_of_cell (at_control x (put item) rows) d) (same_equal c d same)
      ∙ at_same d (put item) rows ∙ ap (option_map (put item)) h,
  λ differ. at_other c d (put item) rows differ ∙ h,
)

pub had : (board : RawBoard) (passes : Ctl → Bool) (set : ControlSet) (c : Ctl)
    → IsSet board passes set → has_control set c ≡ true
    → IsSet board (λ d. passes d || same_ctl c d) set
had board passes set c is h = record {
  marks_are = λ d cell. is.marks_are d cell ∙ ap Some (by_same d cell (same_ctl c d) refl);
  members_are = λ d cell p. is.members_are d cell (by_same d cell (same_ctl c d) refl ∙ p);
}
  where
    by_same : (d : Ctl) → IsCell board d → (t : Bool) → same_ctl c d ≡ t → passes d ≡ (passes d || same_ctl c d)
    by_same d cell true e =
        let at : has_control set d ≡ true = ap (has_control set) (sym (same_equal c d e)) ∙ h in
        let p : passes d ≡ true = sym (ap holds_there (is.marks_are d cell)) ∙ at in
        p ∙ sym (ap (λ s. s || same_ctl c d) p)
    by_same d cell false e = sym (or-false (passes d)) ∙ ap (λ s. passes d || s) (sym e)

pub added : (board : RawBoard) (passes : Ctl → Bool) (set after : ControlSet) (c : Ctl)
    → IsSet board passes set
    → table after.marks.items ≡ at_control c (put true) (table set.marks.items)
    → after.members.items ≡ set.members.items ++ c ∷ []
    → IsSet board (λ d. passes d || same_ctl c d) after
added board passes set after c is e f = record {
  marks_are = λ d cell. ap (λ rows. item_of_cell rows d) e ∙ by_same d cell (same_ctl c d) refl;
  members_are =
      λ d cell p. let P : List Ctl → Type 0 = λ v. Contains v d in
      subst P (sym f) (by_member d cell (passes d) refl (same_ctl c d) refl p);
}
  where
    rows : List (List Bool)
    rows = table set.marks.items

    by_same : (d : Ctl) → IsCell board d → (t : Bool) → same_ctl c d ≡ t
        → item_of_cell (at_control c (put true) rows) d ≡ Some (passes d || t)
    by_same d cell true k = (put_item c d true (passes d) rows (is.marks_are d cell)).0 k ∙ ap Some (sym (or-true (passes d)))
    by_same d cell false k = (put_item c d true (passes d) rows (is.marks_are d cell)).1 k ∙ ap Some (sym (or-false (passes d)))

    by_member : (d : Ctl) → IsCell board d → (s : Bool) → passes d ≡ s → (t : Bool)
        → same_ctl c d ≡ t → (s || t) ≡ true → Contains (set.members.items ++ c ∷ []) d
    by_member d cell true k t g p =
        has_contains (set.members.items ++ c ∷ []) d
        (has_left set.members.items (c ∷ []) d
        (contains_has set.members.items d (is.members_are d cell k)))
    by_member d cell false k true g p =
        has_contains (set.members.items ++ c ∷ []) d
        (has_right set.members.items (c ∷ []) d (inl (same_equal c d g)))
    by_member d cell false k false g p = cc p

off : (members : List Ctl) (rows : List (List Bool)) (d : Ctl) (t : Bool)
    → item_of_cell rows d ≡ Some t → (t ≡ true → Has members d)
    → item_of_cell (put_all false rows members) d ≡ Some false
off [] rows d true h listed = absurd (listed refl)
off [] rows d false h listed = h
off (c ∷ members) rows d t h listed = by_same (same_ctl c d) refl (λ s k l. off members (at_control c (put false) rows) d s k l)
  where
    later : same_ctl c d ≡ false → Has (c ∷ members) d → Has members d
    later e (inl same) = absurd (clash (same_ctl c d) (ap (λ x. same_ctl x d) same ∙ same_refl d) e)
    later e (inr rest) = rest

    by_same : (s : Bool) → same_ctl c d ≡ s
        → ((s : Bool) → item_of_cell (at_control c (put false) rows) d ≡ Some s
        → (s ≡ true → Has members d)
        → item_of_cell (put_all false (at_control c (put false) rows) members) d ≡ Some false)
        → item_of_cell (put_all false (at_control c (put false) rows) members) d ≡ Some false
    by_same true e rest = rest false ((put_item c d false t rows h).0 e) (λ k. cc k)
    by_same false e rest = rest t ((put_item c d false t rows h).1 e) (λ k. later e (listed k))

pub cleared : (board : RawBoard) (passes : Ctl → Bool) (set after : ControlSet)
    → IsSet board passes set
    → table after.marks.items ≡ put_all false (table set.marks.items) set.members.items
    → IsSet board (λ c. false) after
cleared board passes set after is e =
    empty_set board after
    (λ c cell. ap (λ rows. item_of_cell rows c) e
    ∙ off set.members.items (table set.marks.items) c (passes c) (is.marks_are c cell)
    (λ h. contains_has set.members.items c (is.members_are c cell h)))
