-- Lemmas about pairs of nets for which no pass is needed.
use Rattle.std.proofs.Common.{◌≡◌, ℕ, zero, suc, ◌+◌, ◌-◌, ◌<◌, ◌≤◌, Bool, true, false, ◌&&◌, ◌||◌, Contains, List, [], ◌∷◌, length, map, fold, Option, Some, None, subst, refl, sym, ◌∙◌, ap, arith, cond, ◌⊎◌, inl, inr}
use Rattle.std.specs.Prelude.{is_some, slice_get}
use Rattle.std.specs.List.{list_all, list_any}
use Rattle.std.proofs.lemmas.Bool.{and_cases, and_from, and_parts, cases_eq, not-false, not-true, or_cases, or_left, or_right}
use Rattle.std.proofs.lemmas.List.{drop_all, length-map}
use Rattle.lists.proofs.ListLemmas.{item_there, list_any_before, list_any_last}
use Rattle.board_defs.specs.declared.board.Ctl.{Ctl}
use Rattle.board_defs.specs.declared.board.RawBoard.{RawBoard}
use Rattle.board_defs.specs.declared.board.Drive.{Drive}
use Rattle.board_defs.specs.declared.board.Net.{Net}
use Rattle.board_defs.specs.Passes.{add_for_nets, are_shown, drivers_by_net, first_pair, is_enabled, pair_pass, shows, tested_drivers, with_pair}
use Rattle.board_defs.proofs.Members.{any_has, has_any}
use Rattle.board_defs.proofs.PassesKept.{pair_shows}
use Rattle.net_classes.specs.Laws.{PairsHaveDrivers}
use Rattle.net_classes.specs.Pairs.{drivers_at, pairs_with}
use Rattle.driver_passes.specs.inner.NumberSets.{is_in}
use Rattle.driver_passes.specs.inner.Pairs.{AreDone, AreLeft, NeedsNoPass, IsDoneTo, StaysDone, is_wanted, pairs_from}
use Rattle.driver_passes.specs.inner.Progress.{EnableTested}
use Rattle.driver_passes.proofs.ProgressLemmas.{drivers_are}
use Rattle.driver_passes.proofs.PairLemmas.{one_done}

pub done_same : (board : RawBoard) (useful : List Ctl) (passes : List (List Ctl)) (a b : ℕ)
    → NeedsNoPass board passes a b
    → add_for_nets board useful passes (drivers_at board a, drivers_at board b) ≡ passes
done_same board useful passes a b (inl e) =
    ap
    (λ t. cond t passes
    (with_pair board useful passes (first_pair board (drivers_at board a) (drivers_at board b)))) e
done_same board useful passes a b (inr e) =
    ap
    (λ w. cond (are_shown passes (drivers_at board a) (drivers_at board b)) passes
    (with_pair board useful passes w)) e
    ∙ either (are_shown passes (drivers_at board a) (drivers_at board b))
  where
    either : (t : Bool) → cond t passes passes ≡ passes
    either true = refl
    either false = refl

pub done_kept : (board : RawBoard) (useful : List Ctl) (passes after : List (List Ctl))
    (nets : List Drive × List Drive) → after ≡ add_for_nets board useful passes nets
    → StaysDone board passes after
done_kept board useful passes after nets e m n (inr none) = inr none
done_kept board useful passes after nets e m n (inl shown) =
    inl
    (ap (list_any p) e ∙ by_test (are_shown passes nets.0 nets.1) (first_pair board nets.0 nets.1))
  where
    p : List Ctl → Bool
    p pass = shows (drivers_at board m) pass && shows (drivers_at board n) pass

    by_test : (t : Bool) (found : Option (Drive × Drive)) → list_any p (cond t passes (with_pair board useful passes found)) ≡ true
    by_test true found = shown
    by_test false None = shown
    by_test false (Some pair) = list_any_before p passes (pair_pass board useful pair) shown

pub done_now : (board : RawBoard) (useful : List Ctl) (passes after : List (List Ctl)) (a b : ℕ)
    → a < length board.nets → b < length board.nets
    → after ≡ add_for_nets board useful passes (drivers_at board a, drivers_at board b)
    → NeedsNoPass board after a b
done_now board useful passes after a b first second e =
    let P : List (List Ctl) → Type 0 = λ v. NeedsNoPass board v a b in
    subst P (sym e)
    (by_test (are_shown passes (drivers_at board a) (drivers_at board b)) refl
    (first_pair board (drivers_at board a) (drivers_at board b)) refl)
  where
    p : List Ctl → Bool
    p pass = shows (drivers_at board a) pass && shows (drivers_at board b) pass

    made : (pair : Drive × Drive)
        → first_pair board (drivers_at board a) (drivers_at board b) ≡ Some pair
        → p (pair_pass board useful pair) ≡ true
    made pair h =
        let one : (net : Net) × (slice_get board.nets a ≡ Some net) = item_there board.nets a first in
        let two : (net : Net) × (slice_get board.nets b ≡ Some net) = item_there board.nets b second in
        let P : List Drive → Type 0 = λ v. first_pair board v (drivers_at board b) ≡ Some pair
        → (shows v (pair_pass board useful pair)
        && shows (drivers_at board b) (pair_pass board useful pair)) ≡ true in
        let Q : List Drive
        → Type 0 = λ v. first_pair board (tested_drivers board one.0) v ≡ Some pair
        → (shows (tested_drivers board one.0) (pair_pass board useful pair)
        && shows v (pair_pass board useful pair)) ≡ true in
        subst P (sym (drivers_are board a one.0 one.1))
        (subst Q (sym (drivers_are board b two.0 two.1))
        (pair_shows board useful one.0 two.0 pair)) h

    by_test : (t : Bool) → are_shown passes (drivers_at board a) (drivers_at board b) ≡ t
        → (found : Option (Drive × Drive))
        → first_pair board (drivers_at board a) (drivers_at board b) ≡ found
        → NeedsNoPass board (cond t passes (with_pair board useful passes found)) a b
    by_test true shown found h = inl shown
    by_test false shown None h = inr h
    by_test false shown (Some pair) h = inl (list_any_last p passes (pair_pass board useful pair) (made pair h))

-- A net is done if it needs no pass with any later net. If the nets before net `a` are done, and so is net `a`, the nets before net `a + 1`
-- are done.
pub done_next : (board : RawBoard) (passes : List (List Ctl)) (a : ℕ) → AreDone board passes a
    → IsDoneTo board passes a (length board.nets) → AreDone board passes (a + 1)
done_next board passes a are done m less = by_net (cases_eq m a)
  where
    by_net : (m ≡ a) ⊎ (m ≡ a → ⊥) → IsDoneTo board passes m (length board.nets)
    by_net (inl same) = let P : ℕ → Type 0 = λ k. IsDoneTo board passes k (length board.nets) in subst P (sym same) done
    by_net (inr other) = are m (omega (arith, other, less))

pub with_last : (board : RawBoard) (before after : List (List Ctl)) (a b c : ℕ)
    → StaysDone board before after → ((n : ℕ) → b ≤ n → n < c → NeedsNoPass board before a n)
    → NeedsNoPass board after a c → (n : ℕ) → b ≤ n → n < c + 1 → NeedsNoPass board after a n
with_last board before after a b c stays earlier last n least below = by_net (cases_eq n c)
  where
    by_net : (n ≡ c) ⊎ (n ≡ c → ⊥) → NeedsNoPass board after a n
    by_net (inl same) = let P : ℕ → Type 0 = λ k. NeedsNoPass board after a k in subst P (sym same) last
    by_net (inr other) = stays a n (earlier n least (omega (arith, other, below)))

-- Nets that need no pass with net `a` can be skipped.
skipped : (board : RawBoard) (useful : List Ctl) (passes : List (List Ctl)) (a b k : ℕ)
    → b + k ≤ length board.nets → ((n : ℕ) → b ≤ n → n < b + k → NeedsNoPass board passes a n)
    → fold (add_for_nets board useful) passes (pairs_from board a (b + k))
    ≡ fold (add_for_nets board useful) passes (pairs_from board a b)
skipped board useful passes a b zero most done =
    let same : b + 0 ≡ b = omega arith in
    ap (λ n. fold (add_for_nets board useful) passes (pairs_from board a n)) same
skipped board useful passes a b (suc k) most done =
    let next : b + suc k ≡ (b + 1) + k = omega arith in
    ap (λ n. fold (add_for_nets board useful) passes (pairs_from board a n)) next ∙
    skipped board useful passes a (b + 1) k (omega (arith, most)) (λ n least below. done n (omega (arith, least)) (omega (arith, below))) ∙
    one_done board useful passes passes a b (omega (arith, most))
    (sym (done_same board useful passes a b (done b (omega arith) (omega arith))))

pub skipped_to : (board : RawBoard) (useful : List Ctl) (passes : List (List Ctl)) (a b c : ℕ)
    → b ≤ c → c ≤ length board.nets → ((n : ℕ) → b ≤ n → n < c → NeedsNoPass board passes a n)
    → fold (add_for_nets board useful) passes (pairs_from board a c)
    ≡ fold (add_for_nets board useful) passes (pairs_from board a b)
skipped_to board useful passes a b c least most done =
    let all : b + (c - b) ≡ c = omega (arith, least) in
    sym (ap (λ n. fold (add_for_nets board useful) passes (pairs_from board a n)) all)
    ∙ skipped board useful passes a b (c - b) (omega (arith, all, most))
    (λ n from below. done n from (omega (arith, below, all)))

pub none_wanted : (board : RawBoard) (passes : List (List Ctl)) (left : List ℕ) (a from b : ℕ)
    → PairsHaveDrivers → AreLeft board passes a left → a < from → b ≤ length board.nets
    → ((n : ℕ) → from ≤ n → n < b → is_wanted board left a n ≡ false) → (n : ℕ) → from ≤ n → n < b
    → NeedsNoPass board passes a n
none_wanted board passes left a from b law are later most none n least below =
    by_part (and_cases (is_in left n) (pairs_with board a n) (none n least below))
  where
    by_found : (found : Option (Drive × Drive)) → is_some found ≡ false → found ≡ None
    by_found None h = refl
    by_found (Some pair) h = cc h

    by_part : (is_in left n ≡ false) ⊎ (pairs_with board a n ≡ false) → NeedsNoPass board passes a n
    by_part (inl shown) =
        inl
        (not-false (are_shown passes (drivers_at board a) (drivers_at board n))
        (sym (are n (omega (arith, least, later)) (omega (arith, below, most))) ∙ shown))
    by_part (inr apart) = inr (by_found (first_pair board (drivers_at board a) (drivers_at board n)) (sym (law board a n) ∙ apart))

pub unshown : (board : RawBoard) (passes : List (List Ctl)) (left : List ℕ) (a n : ℕ)
    → AreLeft board passes a left → a ≤ n → n < length board.nets → is_wanted board left a n ≡ true
    → are_shown passes (drivers_at board a) (drivers_at board n) ≡ false
unshown board passes left a n are from within e =
    not-true (are_shown passes (drivers_at board a) (drivers_at board n))
    (sym (are n from within) ∙ (and_parts (is_in left n) (pairs_with board a n) e).0)

pub none_left : (board : RawBoard) (useful : List Ctl) (passes : List (List Ctl)) (a b : ℕ)
    → length board.nets ≤ b
    → fold (add_for_nets board useful) passes (pairs_from board a b) ≡ passes
none_left board useful passes a b most =
    ap
    (λ v. fold (add_for_nets board useful) passes (map (λ others. (drivers_at board a, others)) v))
    (drop_all b (drivers_by_net board)
    (omega (arith, most, length-map board.nets (tested_drivers board))))

pub none_later : (board : RawBoard) (useful : List Ctl) (passes : List (List Ctl)) (a : ℕ)
    → a < length board.nets → IsDoneTo board passes a (length board.nets)
    → passes ≡ fold (add_for_nets board useful) passes (pairs_from board a (a + 1))
none_later board useful passes a less done =
    sym (none_left board useful passes a (length board.nets) (omega arith))
    ∙ skipped_to board useful passes a (a + 1) (length board.nets) (omega (arith, less))
    (omega arith) (λ n least below. done n (omega (arith, least)) below)

pub none_tested : (board : RawBoard) (passes : List (List Ctl)) (a b : ℕ) → drivers_at board a ≡ [] → NeedsNoPass board passes a b
none_tested board passes a b e = inr (ap (λ v. first_pair board v (drivers_at board b)) e)

no_others : (board : RawBoard) (drivers : List Drive) → first_pair board drivers [] ≡ None
no_others board [] = refl
no_others board (d ∷ drivers) = no_others board drivers

all_pass : {X : Type 0} (p q : X → Bool) (xs : List X) → list_all p xs ≡ true → list_any q xs ≡ true → list_any (λ x. p x && q x) xs ≡ true
all_pass p q [] all h = h
all_pass {X} p q (x ∷ xs) all h =
    by_part (and_parts (p x) (list_all p xs) all).0
    (all_pass p q xs (and_parts (p x) (list_all p xs) all).1) (or_cases (q x) (list_any q xs) h)
  where
    by_part : p x ≡ true → (list_any q xs ≡ true → list_any (λ (y : X). p y && q y) xs ≡ true)
        → (q x ≡ true) ⊎ (list_any q xs ≡ true)
        → ((p x && q x) || list_any (λ (y : X). p y && q y) xs) ≡ true
    by_part here rest (inl e) = or_left (p x && q x) (list_any (λ (y : X). p y && q y) xs) (and_from (p x) (q x) here e)
    by_part here rest (inr e) = or_right (p x && q x) (list_any (λ (y : X). p y && q y) xs) (rest e)

pub all_show : (board : RawBoard) (passes : List (List Ctl)) (a b : ℕ) → EnableTested board passes
    → list_all (shows (drivers_at board a)) passes ≡ true → b < length board.nets
    → NeedsNoPass board passes a b
all_show board passes a b are all less = by_drivers (drivers_at board b) (λ d h. are b d less h)
  where
    by_drivers : (others : List Drive)
        → ((d : Drive) → Contains others d → list_any (λ pass. is_enabled pass d) passes ≡ true)
        → (are_shown passes (drivers_at board a) others ≡ true)
        ⊎ (first_pair board (drivers_at board a) others ≡ None)
    by_drivers [] enabled = inr (no_others board (drivers_at board a))
    by_drivers (d ∷ others) enabled =
        let r = any_has (λ (pass : List Ctl). is_enabled pass d) passes (enabled d (0, omega arith, refl)) in
        let some : list_any (shows (d ∷ others)) passes
        ≡ true = has_any (shows (d ∷ others)) passes r.0 r.1
        (or_left (is_enabled r.0 d) (list_any (is_enabled r.0) others) r.2) in
        inl (all_pass (shows (drivers_at board a)) (shows (d ∷ others)) passes all some)
