-- Lemmas about the passes so far and about the tested drivers of the nets.
use Rattle.std.proofs.Common.{◌≡◌, ℕ, zero, suc, ◌+◌, ◌<◌, ◌≤◌, Bool, true, false, not, ◌||◌, List, [], ◌∷◌, ◌++◌, length, map, get_or, drop, take, fold, Option, Some, None, refl, sym, ◌∙◌, ap, arith, cond}
use Rattle.std.specs.Prelude.{◌==◌, slice_get, filter_map, sum_by}
use Rattle.std.specs.List.{list_any, flat_map, range_with_len, cons_option}
use Rattle.std.proofs.Math.Bool.{or-false, or_comm}
use Rattle.std.proofs.Math.Seq.{drop-cons}
use Rattle.std.proofs.lemmas.List.{append-nil, length-append, length-map, take_all, take_more, length_push}
use Rattle.std.proofs.lemmas.List.Folds.{list_any-append}
use Rattle.std.proofs.lemmas.List.Sums.{fold-append, sum_by-cons}
use Rattle.std.proofs.lemmas.Grind.{flat_map-append}
use Rattle.board_defs.specs.Limits.{most_pins}
use Rattle.lists.proofs.Booleans.{suc-eqb_zero}
use Rattle.board_defs.specs.declared.board.Net.{Net}
use Rattle.board_defs.specs.declared.board.Ctl.{Ctl}
use Rattle.board_defs.specs.declared.board.RawBoard.{RawBoard}
use Rattle.board_defs.specs.declared.board.Drive.{Drive}
use Rattle.board_defs.specs.Pins.{IsCell}
use Rattle.board_defs.specs.Settings.{holds}
use Rattle.board_defs.specs.Passes.{drivers_by_net, tested_drivers, tested_drive, useful_controls, add_for_driver, driver_pass, is_enabled}
use Rattle.net_facts.proofs.UsefulLemmas.{useful_cells}
use Rattle.net_classes.specs.Pairs.{drivers_at, drivers_there}
use Rattle.net_classes.specs.inner.Pairs.{IsByCell, IsUsefulDriver}
use Rattle.driver_passes.specs.inner.Progress.{AreHeld, is_held}
use Rattle.driver_passes.specs.inner.NumberSets.{is_in}
use Rattle.driver_passes.proofs.ControlLemmas.{holds_of}

pub held_more : (board : RawBoard) (passes after : List (List Ctl)) (pass : List Ctl)
    (held joined : List ℕ) → AreHeld board passes held → length joined ≡ length held
    → ((i : ℕ) (c : Ctl) → slice_get (useful_controls board) i ≡ Some c
    → is_in joined i ≡ (holds pass c || is_in held i)) → after ≡ passes ++ pass ∷ []
    → AreHeld board after joined
held_more board passes after pass held joined is len join e = record {
  held_length = len ∙ is.held_length;
  held_are =
      λ i c h. join i c h ∙ ap (λ v. holds pass c || v) (is.held_are i c h)
      ∙ or_comm (holds pass c) (is_held passes c)
      ∙ ap (λ v. is_held passes c || v) (sym (or-false (holds pass c)))
      ∙ sym (ap (λ v. is_held v c) e ∙ list_any-append (λ pass. holds pass c) passes (pass ∷ []));
}

-- Every pass enables a driver that is always on. So some pass enables it unless there are no passes.
pub any_pass : (passes : List (List Ctl)) → list_any (λ pass. true) passes ≡ not (length passes == 0)
any_pass [] = refl
any_pass (pass ∷ passes) = sym (ap not (suc-eqb_zero (length passes)))

same_drivers : (board : RawBoard) (n : ℕ) → get_or (drivers_by_net board) n [] ≡ drivers_at board n
same_drivers board n = by_place board.nets n
  where
    by_place : (nets : List Net) (n : ℕ) → get_or (map (tested_drivers board) nets) n [] ≡ drivers_there board (slice_get nets n)
    by_place [] n = refl
    by_place (net ∷ nets) zero = refl
    by_place (net ∷ nets) (suc n) = by_place nets n

lists_within : (board : RawBoard) (n : ℕ) → n < length board.nets → n < length (drivers_by_net board)
lists_within board n less = omega (arith, length-map board.nets (tested_drivers board))

pub drop_drivers : (board : RawBoard) (n : ℕ) → n < length board.nets
    → drop n (drivers_by_net board) ≡ drivers_at board n ∷ drop (suc n) (drivers_by_net board)
drop_drivers board n less =
    drop-cons (drivers_by_net board) n [] (lists_within board n less)
    ∙ ap (λ v. v ∷ drop (suc n) (drivers_by_net board)) (same_drivers board n)

pub take_drivers : (board : RawBoard) (n : ℕ) → n < length board.nets
    → take (n + 1) (drivers_by_net board) ≡ take n (drivers_by_net board) ++ drivers_at board n ∷ []
take_drivers board n less =
    take_more (drivers_by_net board) n [] (lists_within board n less)
    ∙ ap (λ v. take n (drivers_by_net board) ++ v ∷ []) (same_drivers board n)

pub drivers_are : (board : RawBoard) (n : ℕ) (net : Net) → slice_get board.nets n ≡ Some net → drivers_at board n ≡ tested_drivers board net
drivers_are board n net e = ap (drivers_there board) e

pub useful_cell : (board : RawBoard) (c : Ctl) → holds (useful_controls board) c ≡ true → IsCell board c
useful_cell board c = holds_of (IsCell board) (useful_controls board) c (useful_cells board (useful_controls board) refl)

pub useful_by_cell : (board : RawBoard) (d : Drive) → IsUsefulDriver board d → IsByCell board d
useful_by_cell board d useful c by = useful_cell board c (useful c by)

pub passes_whole : (board : RawBoard) (useful : List Ctl) (passes : List (List Ctl)) (n : ℕ)
    → length board.nets ≤ n
    → passes
    ≡ fold (add_for_driver board useful) []
    (flat_map (λ drivers. drivers) (take n (drivers_by_net board)))
    → passes
    ≡ fold (add_for_driver board useful) [] (flat_map (λ drivers. drivers) (drivers_by_net board))
passes_whole board useful passes n most e =
    let all : length (drivers_by_net board) ≤ n = omega (arith, length-map board.nets (tested_drivers board)) in
    e
    ∙ ap
    (λ v. fold (add_for_driver board useful) []
    (flat_map (λ (drivers : List Drive). drivers) v)) (take_all n (drivers_by_net board) all)

-- The iteration of the loop for net `n` adds the passes for the tested drivers of this net.
pub drivers_more : (board : RawBoard) (step : List (List Ctl) → Drive → List (List Ctl))
    (before after : List (List Ctl)) (drivers : List Drive) (n : ℕ) → n < length board.nets
    → drivers ≡ drivers_at board n
    → before ≡ fold step [] (flat_map (λ drivers. drivers) (take n (drivers_by_net board)))
    → after ≡ fold step before drivers →
    after ≡ fold step [] (flat_map (λ drivers. drivers) (take (n + 1) (drivers_by_net board)))
drivers_more board step before after drivers n less e so_far more =
    let own : List Drive = drivers_at board n in
    let earlier : List (List Drive) = take n (drivers_by_net board) in
    more ∙ ap (fold step before) e ∙ ap (λ v. fold step v own) so_far
    ∙ sym (fold-append step [] (flat_map (λ (v : List Drive). v) earlier) own)
    ∙ ap (λ v. fold step [] (flat_map (λ (v : List Drive). v) earlier ++ v))
    (sym (append-nil own)) ∙
    sym
    (ap (fold step [])
    (ap (flat_map (λ (v : List Drive). v)) (take_drivers board n less)
    ∙ flat_map-append (λ (v : List Drive). v) earlier (own ∷ [])))

one_more : (board : RawBoard) (useful : List Ctl) (passes : List (List Ctl)) (d : Drive)
    → length (add_for_driver board useful passes d) ≤ length passes + 1
one_more board useful passes d = by_test (list_any (λ pass. is_enabled pass d) passes)
  where
    by_test : (t : Bool) → length (cond t passes (passes ++ driver_pass board useful passes d ∷ [])) ≤ length passes + 1
    by_test true = omega arith
    by_test false = omega (arith, length_push passes (driver_pass board useful passes d))

fold_few : (board : RawBoard) (useful : List Ctl) (drivers : List Drive) (passes : List (List Ctl))
    → length (fold (add_for_driver board useful) passes drivers) ≤ length passes + length drivers
fold_few board useful [] passes = omega arith
fold_few board useful (d ∷ drivers) passes =
    omega (
      arith,
      one_more board useful passes d,
      fold_few board useful drivers (add_for_driver board useful passes d),
    )

filter_few : (f : ℕ → Option Drive) (a n : ℕ) → length (filter_map f (range_with_len a n)) ≤ n
filter_few f a zero = omega arith
filter_few f a (suc n) = by_item (f a) (filter_few f (a + 1) n)
  where
    by_item : (o : Option Drive) → length (filter_map f (range_with_len (a + 1) n)) ≤ n
        → length (cons_option o (filter_map f (range_with_len (a + 1) n))) ≤ suc n
    by_item None h = omega arith
    by_item (Some d) h = omega arith

drivers_few : (board : RawBoard) (nets : List Net)
    → length (flat_map (λ drivers. drivers) (map (tested_drivers board) nets))
    ≤ sum_by (λ net. length net.pins) nets
drivers_few board [] = omega arith
drivers_few board (net ∷ nets) =
    omega (
      arith,
      length-append (tested_drivers board net)
          (flat_map (λ (drivers : List Drive). drivers) (map (tested_drivers board) nets)),
      filter_few (tested_drive board net) 0 (length net.pins),
      sum_by-cons (λ (n : Net). length n.pins) net nets,
      drivers_few board nets,
    )

pub passes_few : (board : RawBoard) (useful : List Ctl) (passes : List (List Ctl))
    → sum_by (λ net. length net.pins) board.nets ≤ most_pins
    → passes
    ≡ fold (add_for_driver board useful) [] (flat_map (λ drivers. drivers) (drivers_by_net board))
    → length passes ≤ most_pins
passes_few board useful passes pins e =
    omega (
      arith,
      ap length e,
      fold_few board useful (flat_map (λ (drivers : List Drive). drivers) (drivers_by_net board))
          [],
      drivers_few board board.nets,
    )
