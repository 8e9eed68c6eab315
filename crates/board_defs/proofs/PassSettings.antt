-- Lemmas about the settings of passes: every two controls of a setting are together, and a walk removes no control from a setting. Two
-- controls are together if the setting with just these two is safe.
use Rattle.std.proofs.Common.{◌≡◌, Bool, true, false, not, ◌&&◌, ◌||◌, List, [], ◌∷◌, Some, refl, sym, ◌∙◌, ap, cond, ◌⊎◌, inl, inr}
use Rattle.std.proofs.lemmas.Bool.{and_parts, and_from, or_left, or_right, or_cases}
use Rattle.lists.proofs.Booleans.{or_swap}
use Rattle.board_defs.specs.declared.board.Ctl.{Ctl}
use Rattle.board_defs.specs.declared.board.RawBoard.{RawBoard}
use Rattle.board_defs.specs.declared.board.Drive.{Drive}
use Rattle.board_defs.specs.declared.board.Drive.TheVariants.{AlwaysOn, OneSided, By}
use Rattle.board_defs.specs.BoardRules.{IsBoard}
use Rattle.board_defs.specs.Settings.{same_ctl, precedes, holds, inserted, both, IsSafe}
use Rattle.board_defs.specs.Decided.{is_safe_alone, are_together, are_compatible, can_enable, share_net}
use Rattle.board_defs.specs.Passes.{is_enabled, with_driver, joins_setting, is_new, walk, first_walk, second_walk, driver_pass, pair_pass}
use Rattle.board_defs.proofs.ControlOrder.{same_equal, same_refl}
use Rattle.board_defs.proofs.Members.{Has, any_has, all_has}
use Rattle.board_defs.proofs.Pairwise.{safe_within, safe_from_pairs}
use Rattle.board_defs.proofs.SafeSettings.{alone_safe, together_safe, safe_together}

pub holds_inserted : (c d : Ctl) (list : List Ctl) → holds (inserted c list) d ≡ (same_ctl d c || holds list d)
holds_inserted c d [] = refl
holds_inserted c d (x ∷ list) = by_before (holds_inserted c d list) (precedes x c) (same_ctl c x) refl
  where
    twice : (a b r : Bool) → a ≡ b → (b || r) ≡ (a || (b || r))
    twice true true r e = refl
    twice true false r e = cc e
    twice false b r e = refl

    by_before : holds (inserted c list) d ≡ (same_ctl d c || holds list d) → (t s : Bool) → same_ctl c x ≡ s →
        holds (cond t (x ∷ inserted c list) (cond s (x ∷ list) (c ∷ x ∷ list))) d ≡ (same_ctl d c || (same_ctl d x || holds list d))
    by_before rest true s e = ap (λ t. same_ctl d x || t) rest ∙ or_swap (same_ctl d x) (same_ctl d c) (holds list d)
    by_before rest false true e = twice (same_ctl d c) (same_ctl d x) (holds list d) (ap (same_ctl d) (same_equal c x e))
    by_before rest false false e = refl

pub inserted_keeps : (c d : Ctl) (list : List Ctl) → holds list d ≡ true → holds (inserted c list) d ≡ true
inserted_keeps c d list h = holds_inserted c d list ∙ or_right (same_ctl d c) (holds list d) h

pub inserted_has : (c : Ctl) (list : List Ctl) → holds (inserted c list) c ≡ true
inserted_has c list = holds_inserted c c list ∙ or_left (same_ctl c c) (holds list c) (same_refl c)

-- every two controls of the setting are together
abbrev pub AllTogether : RawBoard → List Ctl → Type 0
AllTogether board s = (c d : Ctl) → holds s c ≡ true → holds s d ≡ true → are_together board c d ≡ true

pub together_swap : (board : RawBoard) (a b : Ctl) → IsBoard board → are_together board a b ≡ true → are_together board b a ≡ true
together_swap board a b rules h =
    safe_together board b a
    (safe_within board (both b a) (both a b) (λ c k. swap_or (same_ctl c b) (same_ctl c a) k)
    (together_safe board a b rules h))
  where
    swap_or : (x y : Bool) → (x || y) ≡ true → (y || x) ≡ true
    swap_or true true k = refl
    swap_or true false k = refl
    swap_or false true k = refl
    swap_or false false k = k

first_alone : (board : RawBoard) (a b : Ctl) → are_together board a b ≡ true → is_safe_alone board a ≡ true
first_alone board a b h =
    (and_parts (is_safe_alone board a) (is_safe_alone board b)
    (and_parts (is_safe_alone board a && is_safe_alone board b)
    (same_ctl a b || not (share_net board a b)) h).0).0

together_self : (board : RawBoard) (c : Ctl) → is_safe_alone board c ≡ true → are_together board c c ≡ true
together_self board c h =
    and_from (is_safe_alone board c && is_safe_alone board c) _
    (and_from (is_safe_alone board c) (is_safe_alone board c) h h)
    (or_left (same_ctl c c) _ (same_refl c))

pub safe_setting : (board : RawBoard) (s : List Ctl) → IsBoard board → AllTogether board s → IsSafe board (holds s)
safe_setting board s rules all = safe_from_pairs board (holds s) rules.one_always_on (record {
  each = λ c h. alone_safe board c rules (first_alone board c c (all c c h h));
  each_two = λ c d hc hd. together_safe board c d rules (all c d hc hd);
})

insert_together : (board : RawBoard) (c : Ctl) (s : List Ctl) → IsBoard board
    → is_safe_alone board c ≡ true → ((d : Ctl) → holds s d ≡ true → are_together board c d ≡ true)
    → AllTogether board s → AllTogether board (inserted c s)
insert_together board c s rules safe new all a b ha hb =
    by_or (or_cases (same_ctl a c) (holds s a) (sym (holds_inserted c a s) ∙ ha))
    (or_cases (same_ctl b c) (holds s b) (sym (holds_inserted c b s) ∙ hb))
  where
    by_or : (same_ctl a c ≡ true) ⊎ (holds s a ≡ true) → (same_ctl b c ≡ true) ⊎ (holds s b ≡ true) → are_together board a b ≡ true
    by_or (inl x) (inl y) =
        ap (λ v. are_together board v b) (same_equal a c x)
        ∙ ap (are_together board c) (same_equal b c y) ∙ together_self board c safe
    by_or (inl x) (inr y) = ap (λ v. are_together board v b) (same_equal a c x) ∙ new b y
    by_or (inr x) (inl y) = ap (are_together board a) (same_equal b c y) ∙ together_swap board c a rules (new a x)
    by_or (inr x) (inr y) = all a b x y

held_fits : (board : RawBoard) (s : List Ctl) (c d : Ctl) → joins_setting board s c ≡ true
    → holds s d ≡ true → are_together board c d ≡ true
held_fits board s c d f h =
    let r = any_has (same_ctl d) s h in
    ap (are_together board c) (same_equal d r.0 r.2) ∙ all_has (are_together board c) s r.0 f r.1

-- each of the controls is safe alone
abbrev pub AllSafe : RawBoard → List Ctl → Type 0
AllSafe board controls = (c : Ctl) → Has controls c → is_safe_alone board c ≡ true

-- The walk accepts only controls that are together with every control of the setting so far. So every two controls of the setting are
-- still together after the walk.
walk_together : (board : RawBoard) (accepts : List Ctl → Ctl → Bool)
    → ((s : List Ctl) (c : Ctl) → accepts s c ≡ true → joins_setting board s c ≡ true)
    → (controls s : List Ctl) → IsBoard board → AllSafe board controls → AllTogether board s
    → AllTogether board (walk accepts controls s)
walk_together board accepts only [] s rules safe all = all
walk_together board accepts only (c ∷ controls) s rules safe all =
    walk_together board accepts only controls (cond (accepts s c) (inserted c s) s) rules
    (λ d h. safe d (inr h)) (by_test (accepts s c) refl)
  where
    by_test : (t : Bool) → accepts s c ≡ t → AllTogether board (cond t (inserted c s) s)
    by_test true e = insert_together board c s rules (safe c (inl refl)) (λ d h. held_fits board s c d (only s c e) h) all
    by_test false e = all

pub walk_keeps : (accepts : List Ctl → Ctl → Bool) (controls s : List Ctl) (d : Ctl)
    → holds s d ≡ true → holds (walk accepts controls s) d ≡ true
walk_keeps accepts [] s d h = h
walk_keeps accepts (c ∷ controls) s d h = walk_keeps accepts controls (cond (accepts s c) (inserted c s) s) d (by_test (accepts s c))
  where
    by_test : (t : Bool) → holds (cond t (inserted c s) s) d ≡ true
    by_test true = inserted_keeps c d s h
    by_test false = h

first_walk_together : (board : RawBoard) (useful : List Ctl) (earlier : List (List Ctl))
    (s : List Ctl) → IsBoard board → AllSafe board useful → AllTogether board s
    → AllTogether board (first_walk board useful earlier s)
first_walk_together board useful earlier s rules safe all =
    walk_together board (λ s c. is_new earlier c && joins_setting board s c)
    (λ s c h. (and_parts (is_new earlier c) (joins_setting board s c) h).1) useful s rules safe all

second_walk_together : (board : RawBoard) (useful s : List Ctl) → IsBoard board
    → AllSafe board useful → AllTogether board s → AllTogether board (second_walk board useful s)
second_walk_together board useful s rules safe all = walk_together board (joins_setting board) (λ s c h. h) useful s rules safe all

nothing_together : (board : RawBoard) → AllTogether board []
nothing_together board c d h k = cc h

start_together : (board : RawBoard) (d : Drive) → IsBoard board → can_enable board (Some d) ≡ true → AllTogether board (with_driver [] d)
start_together board AlwaysOn rules h = nothing_together board
start_together board OneSided rules h = nothing_together board
start_together board (By c) rules h = insert_together board c [] rules h (λ d k. cc k) (nothing_together board)

pub driver_pass_together : (board : RawBoard) (useful : List Ctl) (passes : List (List Ctl))
    (d : Drive) → IsBoard board → AllSafe board useful → can_enable board (Some d) ≡ true
    → AllTogether board (driver_pass board useful passes d)
driver_pass_together board useful passes d rules safe h =
    second_walk_together board useful (first_walk board useful passes (with_driver [] d)) rules safe
    (first_walk_together board useful passes (with_driver [] d) rules safe
    (start_together board d rules h))

pub both_together : (board : RawBoard) (d e : Drive) → IsBoard board
    → are_compatible board (Some d) (Some e) ≡ true
    → AllTogether board (with_driver (with_driver [] d) e)
both_together board OneSided e rules h = cc h
both_together board AlwaysOn e rules h = start_together board e rules h
both_together board (By c) OneSided rules h = cc h
both_together board (By c) AlwaysOn rules h = start_together board (By c) rules h
both_together board (By c) (By b) rules h =
    insert_together board b (inserted c []) rules
    (first_alone board b c (together_swap board c b rules h))
    (λ d k. by_or d (or_cases (same_ctl d c) (holds [] d) (sym (holds_inserted c d []) ∙ k)))
    (start_together board (By c) rules (first_alone board c b h))
  where
    by_or : (d : Ctl) → (same_ctl d c ≡ true) ⊎ (holds [] d ≡ true) → are_together board b d ≡ true
    by_or d (inl x) = ap (are_together board b) (same_equal d c x) ∙ together_swap board c b rules h
    by_or d (inr x) = cc x

pub pair_pass_together : (board : RawBoard) (useful : List Ctl) (pair : Drive × Drive)
    → IsBoard board → AllSafe board useful → are_compatible board (Some pair.0) (Some pair.1) ≡ true
    → AllTogether board (pair_pass board useful pair)
pair_pass_together board useful pair rules safe h =
    second_walk_together board useful (with_driver (with_driver [] pair.0) pair.1) rules safe
    (both_together board pair.0 pair.1 rules h)

pub with_enables : (s : List Ctl) (d : Drive) (board : RawBoard) → can_enable board (Some d) ≡ true → is_enabled (with_driver s d) d ≡ true
with_enables s AlwaysOn board h = refl
with_enables s OneSided board h = h
with_enables s (By c) board h = inserted_has c s

pub with_keeps : (s : List Ctl) (d e : Drive) → is_enabled s e ≡ true → is_enabled (with_driver s d) e ≡ true
with_keeps s AlwaysOn e h = h
with_keeps s OneSided e h = h
with_keeps s (By c) AlwaysOn h = refl
with_keeps s (By c) OneSided h = h
with_keeps s (By c) (By b) h = inserted_keeps c b s h

walk_enables : (accepts : List Ctl → Ctl → Bool) (controls s : List Ctl) (d : Drive)
    → is_enabled s d ≡ true → is_enabled (walk accepts controls s) d ≡ true
walk_enables accepts controls s AlwaysOn h = refl
walk_enables accepts controls s OneSided h = h
walk_enables accepts controls s (By c) h = walk_keeps accepts controls s c h

pub driver_pass_enables : (board : RawBoard) (useful : List Ctl) (passes : List (List Ctl))
    (d : Drive) → can_enable board (Some d) ≡ true
    → is_enabled (driver_pass board useful passes d) d ≡ true
driver_pass_enables board useful passes d h =
    walk_enables (joins_setting board) useful (first_walk board useful passes (with_driver [] d)) d
    (walk_enables (λ s c. is_new passes c && joins_setting board s c) useful (with_driver [] d) d (with_enables [] d board h))

pub pair_pass_enables : (board : RawBoard) (useful : List Ctl) (pair : Drive × Drive)
    → can_enable board (Some pair.0) ≡ true → can_enable board (Some pair.1) ≡ true
    → (is_enabled (pair_pass board useful pair) pair.0 ≡ true)
    × (is_enabled (pair_pass board useful pair) pair.1 ≡ true)
pair_pass_enables board useful pair h k =
    let start : List Ctl = with_driver [] pair.0 in (
      walk_enables (joins_setting board) useful (with_driver start pair.1) pair.0
          (with_keeps start pair.1 pair.0 (with_enables [] pair.0 board h)),
      walk_enables (joins_setting board) useful (with_driver start pair.1) pair.1 (with_enables start pair.1 board k),
    )
