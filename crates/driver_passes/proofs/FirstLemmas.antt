-- Lemmas about the first tested driver of a board, and about the first pass.
use Rattle.std.proofs.Common.{◌≡◌, ℕ, suc, ◌+◌, ◌<◌, Bool, true, false, List, [], ◌∷◌, ◌++◌, length, map, take, fold, Option, Some, None, refl, sym, ◌∙◌, ap, arith, cond}
use Rattle.std.specs.Prelude.{slice_get, unwrap_or}
use Rattle.std.specs.List.{flat_map, list_any}
use Rattle.std.proofs.lemmas.Option.{slice_get_within}
use Rattle.std.proofs.lemmas.List.Sums.{fold-append}
use Rattle.board_defs.specs.declared.board.Ctl.{Ctl}
use Rattle.board_defs.specs.declared.board.RawBoard.{RawBoard}
use Rattle.board_defs.specs.declared.board.Drive.{Drive}
use Rattle.board_defs.specs.Passes.{add_for_driver, add_for_nets, are_shown, driver_pass, driver_passes, drivers_by_net, first_pair, is_enabled, pair_pass, pairs_within, passes_of, useful_controls, with_pair}
use Rattle.net_classes.specs.Pairs.{drivers_at}
use Rattle.driver_passes.specs.inner.Progress.{drivers_from}
use Rattle.driver_passes.proofs.ProgressLemmas.{drop_drivers}

from_more : (board : RawBoard) (n : ℕ) → n < length board.nets → drivers_from board n ≡ drivers_at board n ++ drivers_from board (n + 1)
from_more board n less =
    let next : suc n ≡ n + 1 = omega arith in
    ap (flat_map (λ (drivers : List Drive). drivers)) (drop_drivers board n less)
    ∙ ap (λ k. drivers_at board n ++ drivers_from board k) next

pub first_found : (board : RawBoard) (n : ℕ) (drivers : List Drive) (d : Drive)
    → n < length board.nets → drivers ≡ drivers_at board n
    → drivers_from board n ≡ drivers_from board 0 → slice_get drivers 0 ≡ Some d
    → Some d ≡ slice_get (drivers_from board 0) 0
first_found board n drivers d less e same at =
    sym (by_list (drivers_at board n) (sym (ap (λ (v : List Drive). slice_get v 0) e) ∙ at))
    ∙ ap (λ (v : List Drive). slice_get v 0) (sym (from_more board n less) ∙ same)
  where
    by_list : (own : List Drive) → slice_get own 0 ≡ Some d → slice_get (own ++ drivers_from board (n + 1)) 0 ≡ Some d
    by_list [] h = cc h
    by_list (x ∷ own) h = h

pub first_later : (board : RawBoard) (n : ℕ) (drivers : List Drive) → n < length board.nets
    → drivers ≡ drivers_at board n → drivers_from board n ≡ drivers_from board 0
    → slice_get drivers 0 ≡ None → drivers_from board (n + 1) ≡ drivers_from board 0
first_later board n drivers less e same at =
    ap (λ (v : List Drive). v ++ drivers_from board (n + 1)) (sym (empty drivers (sym at)) ∙ e)
    ∙ sym (from_more board n less) ∙ same
  where
    empty : (own : List Drive) → None ≡ slice_get own 0 → own ≡ []
    empty [] h = refl
    empty (x ∷ own) h = absurd (omega (arith, slice_get_within [] 0 x h))

behind : (first : List Ctl) (passes more : List (List Ctl)) → take 1 passes ≡ first ∷ [] → take 1 (passes ++ more) ≡ first ∷ []
behind first [] more e = absurd (omega (arith, ap length e))
behind first (pass ∷ passes) more e = e

first_stays : {A : Type 0} (step : List (List Ctl) → A → List (List Ctl)) (first : List Ctl)
    → ((passes : List (List Ctl)) (a : A) → take 1 passes ≡ first ∷ []
    → take 1 (step passes a) ≡ first ∷ []) →
    (items : List A) (passes : List (List Ctl)) → take 1 passes ≡ first ∷ [] → take 1 (fold step passes items) ≡ first ∷ []
first_stays step first stays [] passes e = e
first_stays step first stays (a ∷ items) passes e = first_stays step first stays items (step passes a) (stays passes a e)

by_driver : (board : RawBoard) (useful : List Ctl) (first : List Ctl) (passes : List (List Ctl))
    (d : Drive) → take 1 passes ≡ first ∷ []
    → take 1 (add_for_driver board useful passes d) ≡ first ∷ []
by_driver board useful first passes d e = by_test (list_any (λ pass. is_enabled pass d) passes)
  where
    by_test : (t : Bool) → take 1 (cond t passes (passes ++ driver_pass board useful passes d ∷ [])) ≡ first ∷ []
    by_test true = e
    by_test false = behind first passes (driver_pass board useful passes d ∷ []) e

by_nets : (board : RawBoard) (useful : List Ctl) (first : List Ctl) (passes : List (List Ctl))
    (nets : List Drive × List Drive) → take 1 passes ≡ first ∷ []
    → take 1 (add_for_nets board useful passes nets) ≡ first ∷ []
by_nets board useful first passes nets e = by_test (are_shown passes nets.0 nets.1) (first_pair board nets.0 nets.1)
  where
    by_test : (t : Bool) (found : Option (Drive × Drive)) → take 1 (cond t passes (with_pair board useful passes found)) ≡ first ∷ []
    by_test true found = e
    by_test false None = e
    by_test false (Some pair) = behind first passes (pair_pass board useful pair ∷ []) e

-- the first pass of the board is the pass that is made for the first tested driver
pub first_is : (board : RawBoard) (d : Drive) → Some d ≡ slice_get (drivers_from board 0) 0
    → driver_pass board (useful_controls board) [] d ∷ [] ≡ take 1 (passes_of board)
first_is board d at =
    sym
    (first_stays (add_for_nets board useful) pass (by_nets board useful pass)
    (pairs_within (drivers_by_net board)) (driver_passes board useful (drivers_from board 0))
    (of_drivers (drivers_from board 0) at))
  where
    useful : List Ctl
    useful = useful_controls board

    pass : List Ctl
    pass = driver_pass board useful [] d

    of_drivers : (drivers : List Drive) → Some d ≡ slice_get drivers 0 → take 1 (driver_passes board useful drivers) ≡ pass ∷ []
    of_drivers [] e = absurd (omega (arith, slice_get_within [] 0 d (sym e)))
    of_drivers (head ∷ drivers) e =
        first_stays (add_for_driver board useful) pass (by_driver board useful pass) drivers
        (driver_pass board useful [] head ∷ [])
        (ap (λ o. driver_pass board useful [] (unwrap_or o head) ∷ []) (sym e))

-- A net without tested drivers gets no pass together with any other net.
alone : (board : RawBoard) (useful : List Ctl) (others : List (List Drive))
    → fold (add_for_nets board useful) [] (map (λ drivers. ([], drivers)) others) ≡ []
alone board useful [] = refl
alone board useful (drivers ∷ others) = alone board useful others

none_paired : (board : RawBoard) (useful : List Ctl) (nets : List (List Drive))
    → flat_map (λ drivers. drivers) nets ≡ []
    → fold (add_for_nets board useful) [] (pairs_within nets) ≡ []
none_paired board useful [] e = refl
none_paired board useful ([] ∷ nets) e =
    fold-append (add_for_nets board useful) [] (map (λ (drivers : List Drive). ([], drivers)) nets)
    (pairs_within nets)
    ∙ ap (λ v. fold (add_for_nets board useful) v (pairs_within nets)) (alone board useful nets)
    ∙ none_paired board useful nets e
none_paired board useful ((d ∷ drivers) ∷ nets) e = absurd (omega (arith, ap length e))

pub none_first : (board : RawBoard) → None ≡ slice_get (drivers_from board 0) 0 → [] ≡ take 1 (passes_of board)
none_first board e =
    ap (take 1)
    (sym
    (ap
    (λ v. fold (add_for_nets board useful) (driver_passes board useful v)
    (pairs_within (drivers_by_net board))) none
    ∙ none_paired board useful (drivers_by_net board) none))
  where
    useful : List Ctl
    useful = useful_controls board

    empty : (drivers : List Drive) → None ≡ slice_get drivers 0 → drivers ≡ []
    empty [] at = refl
    empty (d ∷ drivers) at = absurd (omega (arith, slice_get_within [] 0 d at))

    none : drivers_from board 0 ≡ []
    none = empty (drivers_from board 0) e
