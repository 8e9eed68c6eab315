-- Lemmas about walks. A walk goes through a list of controls and adds to a setting each control that its test accepts. It may skip controls
-- that the test does not accept.
use Rattle.std.proofs.Common.{◌≡◌, ℕ, zero, suc, ◌+◌, ◌-◌, ◌≤◌, ◌<◌, Bool, true, false, not, ◌&&◌, List, [], ◌∷◌, length, get_or, drop, drop-cons, drop-drop, Some, refl, sym, ◌∙◌, ap, arith, cond}
use Rattle.std.specs.Prelude.{slice_get}
use Rattle.std.proofs.Math.Bool.{and-false}
use Rattle.std.proofs.lemmas.Bool.{and_parts, and_from}
use Rattle.std.proofs.lemmas.Option.{slice_get_within, get_or_from_slice_get}
use Rattle.board_defs.specs.declared.board.Ctl.{Ctl}
use Rattle.board_defs.specs.declared.board.RawBoard.{RawBoard}
use Rattle.board_defs.specs.Settings.{inserted}
use Rattle.board_defs.specs.Passes.{first_walk, joins_setting, is_new, second_walk, useful_controls, walk}
use Rattle.board_defs.specs.Laws.{PassesAre}
use Rattle.driver_passes.specs.inner.Drafts.{Drafted, drafted, setting_of, draft_with, IsDraft}
use Rattle.driver_passes.specs.inner.NumberSets.{is_in}
use Rattle.driver_passes.specs.inner.Progress.{is_held, AreHeld}
use Rattle.driver_passes.specs.inner.Walks.{first_walked, second_walked}
use Rattle.driver_passes.proofs.FitLemmas.{closed_nothing, free_fits}

-- the setting after the step over one control
abbrev pub stepped : (List Ctl → Ctl → Bool) → List Ctl → Ctl → List Ctl
stepped accepts s c = cond (accepts s c) (inserted c s) s

-- the steps over the controls at the places `from..next` leave the setting `s` unchanged
abbrev pub ArePassed : (List Ctl → Ctl → Bool) → List Ctl → List Ctl → ℕ → ℕ → Type 0
ArePassed accepts controls s from next = (n : ℕ) (c : Ctl) → from ≤ n → n < next → slice_get controls n ≡ Some c → s ≡ stepped accepts s c

pass_some : (accepts : List Ctl → Ctl → Bool) (controls s : List Ctl) (k : ℕ)
    → ((n : ℕ) (c : Ctl) → n < k → slice_get controls n ≡ Some c → s ≡ stepped accepts s c)
    → walk accepts controls s ≡ walk accepts (drop k controls) s
pass_some accepts controls s zero passed = refl
pass_some accepts [] s (suc k) passed = refl
pass_some accepts (c ∷ controls) s (suc k) passed =
    ap (walk accepts controls) (sym (passed zero c (omega arith) refl))
    ∙ pass_some accepts controls s k (λ n d less at. passed (suc n) d (omega (arith, less)) at)

get_drop : (controls : List Ctl) (from n : ℕ) → slice_get (drop from controls) n ≡ slice_get controls (from + n)
get_drop controls zero n = ap (slice_get controls) (omega arith)
get_drop [] (suc from) n = let next : suc from + n ≡ suc (from + n) = omega arith in ap (λ k. slice_get [] k) (sym next)
get_drop (c ∷ controls) (suc from) n =
    let next : suc from + n ≡ suc (from + n) = omega arith in
    get_drop controls from n ∙ ap (slice_get (c ∷ controls)) (sym next)

pub walk_passes : (accepts : List Ctl → Ctl → Bool) (controls s : List Ctl) (from next : ℕ)
    → from ≤ next → ArePassed accepts controls s from next
    → walk accepts (drop from controls) s ≡ walk accepts (drop next controls) s
walk_passes accepts controls s from next least passed =
    let far : from + (next - from) ≡ next = omega (arith, least) in
    pass_some accepts (drop from controls) s (next - from)
    (λ n c less at. passed (from + n) c (omega arith) (omega (arith, less))
    (sym (get_drop controls from n) ∙ at)) ∙
    ap (λ v. walk accepts v s) (drop-drop (next - from) from controls ∙ ap (λ m. drop m controls) far)

pub walk_next : (accepts : List Ctl → Ctl → Bool) (controls s : List Ctl) (place : ℕ) (d : Ctl)
    → place < length controls
    → walk accepts (drop place controls) s
    ≡ walk accepts (drop (place + 1) controls) (stepped accepts s (get_or controls place d))
walk_next accepts controls s place d within =
    let next : place + 1 ≡ suc place = omega arith in
    ap (λ v. walk accepts v s) (drop-cons controls place d within)
    ∙ ap (λ k. walk accepts (drop k controls) (stepped accepts s (get_or controls place d)))
    (sym next)

pub walk_adds : (accepts : List Ctl → Ctl → Bool) (controls before after : List Ctl) (place : ℕ)
    (c : Ctl) → slice_get controls place ≡ Some c → accepts before c ≡ true
    → after ≡ inserted c before
    → walk accepts (drop (place + 1) controls) after ≡ walk accepts (drop place controls) before
walk_adds accepts controls before after place c at fit e =
    sym (walk_next accepts controls before place c (slice_get_within controls place c at) ∙
    ap (walk accepts (drop (place + 1) controls))
    (ap (stepped accepts before) (get_or_from_slice_get controls place c c at) ∙ ap
    (λ t. cond t (inserted c before) before) fit ∙ sym e))

pub second_passes : (board : RawBoard) (held free : List ℕ) (from next : ℕ) → PassesAre board
    → IsDraft board held free → from ≤ next → ((n : ℕ) → from ≤ n → n < next → is_in free n ≡ false)
    →
    second_walk board (drop from (useful_controls board)) (setting_of board held)
    ≡ second_walk board (drop next (useful_controls board)) (setting_of board held)
second_passes board held free from next are is least closed =
    walk_passes (joins_setting board) (useful_controls board) (setting_of board held) from next
    least
    (λ n c low less at. closed_nothing board held free n c
    (joins_setting board (setting_of board held) c) are is at (closed n low less) (λ f. f))

pub first_passes : (board : RawBoard) (held free : List ℕ) (passes : List (List Ctl))
    (earlier : List ℕ) (from next : ℕ) → PassesAre board → IsDraft board held free
    → AreHeld board passes earlier → from ≤ next →
    ((n : ℕ) → from ≤ n → n < next → (is_in free n && not (is_in earlier n)) ≡ false)
    → first_walk board (drop from (useful_controls board)) passes (setting_of board held)
    ≡ first_walk board (drop next (useful_controls board)) passes (setting_of board held)
first_passes board held free passes earlier from next are is known least closed =
    walk_passes accepts (useful_controls board) s from next least
    (λ n c low less at. by_test n c at (closed n low less) (is_in free n) refl)
  where
    s : List Ctl
    s = setting_of board held

    accepts : List Ctl → Ctl → Bool
    accepts v c = is_new passes c && joins_setting board v c

    by_test : (n : ℕ) (c : Ctl) → slice_get (useful_controls board) n ≡ Some c
        → (is_in free n && not (is_in earlier n)) ≡ false → (t : Bool) → is_in free n ≡ t
        → s ≡ stepped accepts s c
    by_test n c at shut false o =
        closed_nothing board held free n c (accepts s c) are is at o
        (λ f. ap (λ t. is_new passes c && t) f ∙ and-false (is_new passes c))
    by_test n c at shut true o =
        let old : not (is_held passes c)
        ≡ false = ap not (sym (known.held_are n c at))
        ∙ sym (ap (λ t. t && not (is_in earlier n)) o) ∙ shut in
        sym (ap (λ t. cond t (inserted c s) s) (ap (λ t. t && joins_setting board s c) old))

pub new_fits : (board : RawBoard) (held free : List ℕ) (passes : List (List Ctl)) (earlier : List ℕ)
    (place : ℕ) (c : Ctl) → IsDraft board held free → AreHeld board passes earlier
    → slice_get (useful_controls board) place ≡ Some c
    → (is_in free place && not (is_in earlier place)) ≡ true
    → (is_new passes c && joins_setting board (setting_of board held) c) ≡ true
new_fits board held free passes earlier place c is known at h =
    let both : (is_in free place ≡ true)
    × (not (is_in earlier place) ≡ true) = and_parts (is_in free place)
    (not (is_in earlier place)) h in
    and_from (is_new passes c) (joins_setting board (setting_of board held) c)
    (ap not (sym (known.held_are place c at)) ∙ both.1)
    (free_fits board held free place c is at both.0)

-- In the lemmas from here to the end of the file, a walk starts from a draft, which has both the board and the setting.

pub second_adds : (board : RawBoard) (held free : List ℕ) (after : Drafted) (from place : ℕ)
    (c : Ctl) → PassesAre board → IsDraft board held free → from ≤ place
    → ((n : ℕ) → from ≤ n → n < place → is_in free n ≡ false) →
    slice_get (useful_controls board) place ≡ Some c → is_in free place ≡ true
    → after ≡ draft_with (drafted board (setting_of board held)) c
    → second_walked after (place + 1)
    ≡ second_walked (drafted board (setting_of board held)) from
second_adds board held free after from place c are is least closed at can e =
    let s : List Ctl = setting_of board held in
    ap (λ d. second_walked d (place + 1)) e ∙
    ap (drafted board)
    (walk_adds (joins_setting board) (useful_controls board) s (inserted c s) place c at
    (free_fits board held free place c is at can) refl
    ∙ sym (second_passes board held free from place are is least closed))

pub first_adds : (board : RawBoard) (held free : List ℕ) (passes : List (List Ctl))
    (earlier : List ℕ) (after : Drafted) (from place : ℕ) (c : Ctl) → PassesAre board
    → IsDraft board held free → AreHeld board passes earlier → from ≤ place
    → ((n : ℕ) → from ≤ n → n < place → (is_in free n && not (is_in earlier n)) ≡ false) →
    slice_get (useful_controls board) place ≡ Some c
    → (is_in free place && not (is_in earlier place)) ≡ true
    → after ≡ draft_with (drafted board (setting_of board held)) c
    → first_walked after (place + 1) passes
    ≡ first_walked (drafted board (setting_of board held)) from passes
first_adds board held free passes earlier after from place c are is known least closed at can e =
    let s : List Ctl = setting_of board held in
    ap (λ d. first_walked d (place + 1) passes) e ∙
    ap (drafted board)
    (walk_adds (λ v d. is_new passes d && joins_setting board v d) (useful_controls board) s
    (inserted c s) place c at
    (new_fits board held free passes earlier place c is known at can) refl
    ∙ sym (first_passes board held free passes earlier from place are is known least closed))
