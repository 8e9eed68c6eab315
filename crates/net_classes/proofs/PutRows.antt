-- Lemmas about adding the row of one more control to the rows of a board. A control is useful if it is safe
-- alone and enables a tested driver.
use Rattle.std.proofs.Common.{◌≡◌, ◌⊎◌, inl, inr, ℕ, ◌+◌, ◌<◌, ◌≤◌, Bool, true, false, List, [], ◌∷◌, ◌++◌, length, take, get_or, Option, Some, None, refl, sym, ◌∙◌, ap, subst, arith, length-append}
use Rattle.std.specs.Prelude.{is_some, option_map, slice_index_or}
use Rattle.std.specs.Option.{option_to_list}
use Rattle.std.proofs.Math.Seq.{get_or-append_seam}
use Rattle.std.proofs.lemmas.List.{get_or_append_left, take_all, take_more}
use Rattle.std.proofs.lemmas.Option.{slice_get-get_or}
use Rattle.board_defs.specs.declared.board.Ctl.{Ctl}
use Rattle.board_defs.specs.declared.board.RawBoard.{RawBoard}
use Rattle.board_defs.specs.declared.board.Drive.TheVariants.{AlwaysOn, By}
use Rattle.board_defs.specs.Pins.{IsCell}
use Rattle.board_defs.specs.Settings.{holds, same_ctl}
use Rattle.board_defs.specs.Decided.{is_useful}
use Rattle.board_defs.specs.Passes.{all_cells, useful_controls}
use Rattle.board_defs.proofs.ControlOrder.{same_equal}
use Rattle.board_defs.proofs.Members.{Has, any_has, filter_has, has_append, has_at}
use Rattle.net_classes.specs.declared.pair_rows.PairRows.{PairRows}
use Rattle.net_facts.specs.Cells.{put, item_of_cell, table, at_control}
use Rattle.net_classes.specs.NetRows.{AreRowBits}
use Rattle.net_classes.specs.inner.PairRows.{AddsRow, HasCovered, IsRowFor, IsRowOf, number_for}
use Rattle.net_classes.specs.Pairs.{fits_at}
use Rattle.net_classes.specs.Kept.{row_number, or_none, row_in}
use Rattle.net_facts.proofs.Notes.{at_same, at_other}

row_stays : (before after : PairRows) (k : ℕ) (more : List (List ℕ)) → k < length before.rows.items
    → after.rows.items ≡ before.rows.items ++ more → row_in after k ≡ row_in before k
row_stays before after k more less e = ap (λ v. slice_index_or v k []) e ∙ get_or_append_left before.rows.items more [] k less

put_there : (o : Option ℕ) (number : ℕ) → is_some o ≡ true → option_map (put number) o ≡ Some number
put_there None number h = cc h
put_there (Some n) number h = refl

some_put : (o : Option ℕ) (number : ℕ) → is_some o ≡ true → is_some (option_map (put number) o) ≡ true
some_put None number h = h
some_put (Some n) number h = refl

pub adds_row : (board : RawBoard) (before after : PairRows) (c : Ctl) (number : ℕ)
    (row : Option (List ℕ)) → HasCovered board before → IsCell board c
    → IsRowFor board c (row_in before 0) row
    → after.rows.items ≡ before.rows.items ++ option_to_list row
    → number ≡ number_for (length before.rows.items) row →
    table after.numbers.items ≡ at_control c (put number) (table before.numbers.items) → AddsRow board before after c
adds_row board before after c number row has cell for_c e f g = record {
  covered = record {
    some = longer 0 has.some;
    covered = subst (AreRowBits (fits_at board AlwaysOn)) (sym (stays 0 has.some)) has.covered;
    room = ap length (stays 0 has.some) ∙ has.room;
    cells = λ d is. by_same d is (same_ctl c d) refl;
  };
  own = by_row row e f for_c;
  others =
      λ d differ is. let same : row_number after d
      ≡ row_number before d = ap or_none
      (ap (λ v. item_of_cell v d) g ∙ at_other c d (put number) numbers differ) in
      let P : ℕ → Type 0 = λ k. k < length after.rows.items in
      let Q : ℕ → Type 0 = λ k. AreRowBits (fits_at board (By d)) (row_in after k) in
      record {
        there = subst P (sym same) (longer (row_number before d) is.there);
        bits = subst Q (sym same) (subst (AreRowBits (fits_at board (By d))) (sym (stays (row_number before d) is.there)) is.bits);
      };
}
  where
    numbers : List (List ℕ)
    numbers = table before.numbers.items

    stays : (k : ℕ) → k < length before.rows.items → row_in after k ≡ row_in before k
    stays k less = row_stays before after k (option_to_list row) less e

    longer : (k : ℕ) → k < length before.rows.items → k < length after.rows.items
    longer k less =
        let size : length after.rows.items
        ≡ length before.rows.items + length (option_to_list row) = ap length e
        ∙ length-append before.rows.items (option_to_list row) in
        omega (arith, size)

    by_same : (d : Ctl) → IsCell board d → (t : Bool) → same_ctl c d ≡ t → is_some (item_of_cell (table after.numbers.items) d) ≡ true
    by_same d is true k =
        ap (λ v. is_some (item_of_cell v d)) g
        ∙ ap (λ (x : Ctl). is_some (item_of_cell (at_control x (put number) numbers) d))
        (same_equal c d k) ∙ ap is_some (at_same d (put number) numbers)
        ∙ some_put (item_of_cell numbers d) number (has.cells d is)
    by_same d is false k = ap (λ v. is_some (item_of_cell v d)) g ∙ ap is_some (at_other c d (put number) numbers k) ∙ has.cells d is

    mine : row_number after c ≡ number
    mine =
        ap or_none
        (ap (λ v. item_of_cell v c) g ∙ at_same c (put number) numbers
        ∙ put_there (item_of_cell numbers c) number (has.cells c cell))

    by_row : (r : Option (List ℕ)) → after.rows.items ≡ before.rows.items ++ option_to_list r
        → number ≡ number_for (length before.rows.items) r → IsRowFor board c (row_in before 0) r
        → IsRowOf board after c
    by_row None h k is =
        let at : row_number after c ≡ 0 = mine ∙ k in
        let P : ℕ → Type 0 = λ n. n < length after.rows.items in
        let Q : ℕ → Type 0 = λ n. AreRowBits (fits_at board (By c)) (row_in after n) in
        record {
          there = subst P (sym at) (longer 0 has.some);
          bits = subst Q (sym at)
              (subst (AreRowBits (fits_at board (By c))) (sym (stays 0 has.some)) is);
        }
    by_row (Some r) h k is =
        let at : row_number after c ≡ length before.rows.items = mine ∙ k in
        let size : length after.rows.items ≡ length before.rows.items + 1 = ap length h ∙ length-append before.rows.items (r ∷ []) in
        let row : row_in after (length before.rows.items)
        ≡ r = ap (λ v. slice_index_or v (length before.rows.items) []) h
        ∙ get_or-append_seam before.rows.items r [] [] in
        let P : ℕ → Type 0 = λ n. n < length after.rows.items in
        let Q : ℕ → Type 0 = λ n. AreRowBits (fits_at board (By c)) (row_in after n) in
        record {
          there = subst P (sym at) (omega (arith, size));
          bits = subst Q (sym at)
              (subst (AreRowBits (fits_at board (By c))) (sym row) is);
        }

-- One iteration of the loop over the useful controls adds the row of control number `i` and preserves the rows of the controls before it.
pub rows_more : (board : RawBoard) (before after : PairRows) (useful : List Ctl) (i : ℕ) (c d : Ctl)
    → i < length useful → c ≡ get_or useful i c → AddsRow board before after c
    → ((d : Ctl) → Has (take i useful) d → IsRowOf board before d) → Has (take (i + 1) useful) d
    → IsRowOf board after d
rows_more board before after useful i c d less at adds rows has =
    let P : List Ctl → Type 0 = λ v. Has v d in
    by_place (has_append (take i useful) (get_or useful i c ∷ []) d (subst P (take_more useful i c less) has))
  where
    by_same : (t : Bool) → same_ctl c d ≡ t → (same_ctl c d ≡ false → IsRowOf board before d) → IsRowOf board after d
    by_same true e rest = let P : Ctl → Type 0 = λ v. IsRowOf board after v in subst P (same_equal c d e) adds.own
    by_same false e rest = adds.others d e (rest e)

    by_place : Has (take i useful) d ⊎ Has (get_or useful i c ∷ []) d → IsRowOf board after d
    by_place (inl earlier) = by_same (same_ctl c d) refl (λ differ. rows d earlier)
    by_place (inr (inl same)) = let P : Ctl → Type 0 = λ v. IsRowOf board after v in subst P (at ∙ same) adds.own
    by_place (inr (inr none)) = absurd none

pub listed : (board : RawBoard) (useful : List Ctl) (i : ℕ) (c : Ctl)
    → useful ≡ useful_controls board → length useful ≤ i → holds (useful_controls board) c ≡ true
    → Has (take i useful) c
listed board useful i c e most h =
    let r : (d : Ctl) × Has (useful_controls board) d × (same_ctl c d ≡ true) = any_has (same_ctl c) (useful_controls board) h in
    let P : Ctl → Type 0 = λ v. Has (useful_controls board) v in
    let Q : List Ctl → Type 0 = λ v. Has v c in
    subst Q (sym (take_all i useful most ∙ e)) (subst P (sym (same_equal c r.0 r.2)) r.1)

pub each_useful : (board : RawBoard) (useful : List Ctl) (i : ℕ) (c : Ctl)
    → useful ≡ useful_controls board → i < length useful
    → is_useful board (get_or useful i c) ≡ true
each_useful board useful i c e less =
    let P : List Ctl → Type 0 = λ v. Has v (get_or useful i c) in
    (filter_has (is_useful board) (all_cells board) (get_or useful i c)
    (subst P e (has_at useful i (get_or useful i c) (slice_get-get_or useful i c less)))).1
