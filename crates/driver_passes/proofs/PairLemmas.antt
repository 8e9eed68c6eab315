-- Lemmas about the pairs of nets and the passes that are added for them.
use Rattle.std.proofs.Common.{◌≡◌, ℕ, suc, ◌+◌, ◌<◌, ◌≤◌, Bool, true, false, List, [], ◌∷◌, length, map, get_or, drop, fold, Option, Some, None, refl, sym, ◌∙◌, ap, arith, cond}
use Rattle.std.specs.Prelude.{find, option_map}
use Rattle.std.specs.Option.{option_or}
use Rattle.std.proofs.Math.Seq.{drop-cons}
use Rattle.std.proofs.lemmas.List.{length_push}
use Rattle.std.proofs.lemmas.List.Folds.{find-append}
use Rattle.std.proofs.lemmas.List.Sums.{fold-append}
use Rattle.board_defs.specs.declared.board.Ctl.{Ctl}
use Rattle.board_defs.specs.declared.board.RawBoard.{RawBoard}
use Rattle.board_defs.specs.declared.board.Drive.{Drive}
use Rattle.board_defs.specs.Decided.{are_compatible}
use Rattle.board_defs.specs.Passes.{add_for_nets, are_shown, drivers_by_net, first_pair, pair_pass, pairs_of, pairs_within, with_pair}
use Rattle.net_classes.specs.Pairs.{drivers_at, fit}
use Rattle.driver_passes.specs.inner.Pairs.{pairs_from}
use Rattle.driver_passes.proofs.ProgressLemmas.{drop_drivers}

-- some safe setting enables both drivers of the pair
abbrev is_fitting : RawBoard → Drive × Drive → Bool
is_fitting board pair = are_compatible board (Some pair.0) (Some pair.1)

abbrev with_first : Drive → Drive → Drive × Drive
with_first d e = (d, e)

find_with : (board : RawBoard) (d : Drive) (others : List Drive)
    → find (is_fitting board) (map (with_first d) others)
    ≡ option_map (with_first d) (find (fit board d) others)
find_with board d [] = refl
find_with board d (e ∷ others) = by_test (fit board d e) (find_with board d others)
  where
    by_test : (t : Bool) → find (is_fitting board) (map (with_first d) others) ≡ option_map (with_first d) (find (fit board d) others) →
        cond t (Some (with_first d e)) (find (is_fitting board) (map (with_first d) others))
        ≡ option_map (with_first d) (cond t (Some e) (find (fit board d) others))
    by_test true rest = refl
    by_test false rest = rest

pair_step : (board : RawBoard) (d : Drive) (drivers others : List Drive)
    → first_pair board (d ∷ drivers) others
    ≡ option_or (option_map (with_first d) (find (fit board d) others))
    (first_pair board drivers others)
pair_step board d drivers others =
    find-append (is_fitting board) (map (with_first d) others) (pairs_of drivers others)
    ∙ ap (λ v. option_or v (first_pair board drivers others)) (find_with board d others)

pub pair_found : (board : RawBoard) (drivers others : List Drive) (i : ℕ) (d e : Drive)
    → i < length drivers → d ≡ get_or drivers i d → find (fit board d) others ≡ Some e
    → first_pair board (drop i drivers) others ≡ Some (d, e)
pair_found board drivers others i d e less at found =
    ap (λ v. first_pair board v others)
    (drop-cons drivers i d less ∙ ap (λ v. v ∷ drop (suc i) drivers) (sym at))
    ∙ pair_step board d (drop (suc i) drivers) others ∙
    ap (λ v. option_or (option_map (with_first d) v) (first_pair board (drop (suc i) drivers) others)) found

pub pair_missed : (board : RawBoard) (drivers others : List Drive) (i : ℕ) (d : Drive)
    → i < length drivers → d ≡ get_or drivers i d → find (fit board d) others ≡ None
    → first_pair board (drop i drivers) others ≡ first_pair board (drop (i + 1) drivers) others
pair_missed board drivers others i d less at missed =
    let next : suc i ≡ i + 1 = omega arith in
    ap (λ v. first_pair board v others)
    (drop-cons drivers i d less ∙ ap (λ v. v ∷ drop (suc i) drivers) (sym at))
    ∙ pair_step board d (drop (suc i) drivers) others ∙
    ap
    (λ v. option_or (option_map (with_first d) v)
    (first_pair board (drop (suc i) drivers) others)) missed
    ∙ ap (λ k. first_pair board (drop k drivers) others) next

pub one_done : (board : RawBoard) (useful : List Ctl) (passes after : List (List Ctl)) (a b : ℕ)
    → b < length board.nets
    → after ≡ add_for_nets board useful passes (drivers_at board a, drivers_at board b)
    → fold (add_for_nets board useful) after (pairs_from board a (b + 1))
    ≡ fold (add_for_nets board useful) passes (pairs_from board a b)
one_done board useful passes after a b less e =
    let next : suc b ≡ b + 1 = omega arith in
    ap (λ v. fold (add_for_nets board useful) v (pairs_from board a (b + 1))) e ∙
    sym (ap (λ v. fold (add_for_nets board useful) passes (map (λ others. (drivers_at board a, others)) v)) (drop_drivers board b less) ∙
    ap
    (λ k. fold (add_for_nets board useful)
    (add_for_nets board useful passes (drivers_at board a, drivers_at board b))
    (pairs_from board a k)) next)

-- for every two nets from net `a` on, the lists of their tested drivers
abbrev pub later_pairs : RawBoard → ℕ → List (List Drive × List Drive)
later_pairs board a = pairs_within (drop a (drivers_by_net board))

pub net_done : (board : RawBoard) (useful : List Ctl) (passes after : List (List Ctl)) (a : ℕ)
    → a < length board.nets
    → after ≡ fold (add_for_nets board useful) passes (pairs_from board a (a + 1))
    → fold (add_for_nets board useful) after (later_pairs board (a + 1))
    ≡ fold (add_for_nets board useful) passes (later_pairs board a)
net_done board useful passes after a less e =
    let next : suc a ≡ a + 1 = omega arith in
    ap (λ v. fold (add_for_nets board useful) v (later_pairs board (a + 1))) e ∙
    sym (ap (λ v. fold (add_for_nets board useful) passes (pairs_within v)) (drop_drivers board a less) ∙
    fold-append (add_for_nets board useful) passes (pairs_from board a (suc a)) (later_pairs board (suc a)) ∙
    ap (λ k. fold (add_for_nets board useful) (fold (add_for_nets board useful) passes (pairs_from board a k)) (later_pairs board k)) next)

pub one_more : (board : RawBoard) (useful : List Ctl) (passes : List (List Ctl))
    (nets : List Drive × List Drive)
    → length (add_for_nets board useful passes nets) ≤ length passes + 1
one_more board useful passes nets = by_test (are_shown passes nets.0 nets.1) (first_pair board nets.0 nets.1)
  where
    by_test : (t : Bool) (found : Option (Drive × Drive)) → length (cond t passes (with_pair board useful passes found)) ≤ length passes + 1
    by_test true found = omega arith
    by_test false None = omega arith
    by_test false (Some pair) = omega (arith, length_push passes (pair_pass board useful pair))
