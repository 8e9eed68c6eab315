-- Lemmas about the rows of the passes. The row of a pass is the set of the nets of which the pass enables a tested driver.
use Rattle.std.proofs.Common.{◌≡◌, ℕ, ◌+◌, ◌/◌, ◌<◌, ◌≤◌, Bool, true, false, not, ◌&&◌, ◌||◌, List, [], ◌∷◌, ◌++◌, length, refl, sym, ◌∙◌, ap, subst, arith}
use Rattle.std.specs.List.{list_all, list_any}
use Rattle.std.proofs.Math.Bool.{and-true, or-false}
use Rattle.std.proofs.lemmas.List.Folds.{list_all-append, list_any-append}
use Rattle.board_defs.specs.declared.board.Ctl.{Ctl}
use Rattle.board_defs.specs.declared.board.RawBoard.{RawBoard}
use Rattle.board_defs.specs.Passes.{are_shown, shows}
use Rattle.net_classes.specs.Pairs.{drivers_at}
use Rattle.driver_passes.specs.inner.NumberSets.{is_in}
use Rattle.driver_passes.specs.inner.Pairs.{AreLeft}
use Rattle.driver_passes.specs.inner.Shown.{AreShownRows, AreShownBy, AreShownByAll, shows_both}

pub shown_as : (board : RawBoard) (made pass : List Ctl) (row : List ℕ) → pass ≡ made
    → AreShownBy board made row → AreShownBy board pass row
shown_as board made pass row e are = let P : List Ctl → Type 0 = λ v. AreShownBy board v row in subst P (sym e) are

rows_push : (board : RawBoard) (passes : List (List Ctl)) (rows : List (List ℕ)) (pass : List Ctl)
    (row : List ℕ) → AreShownRows board passes rows → AreShownBy board pass row
    → AreShownRows board (passes ++ pass ∷ []) (rows ++ row ∷ [])
rows_push board [] [] pass row are shown = (shown, tt)
rows_push board [] (r ∷ rows) pass row are shown = absurd are
rows_push board (p ∷ passes) [] pass row are shown = absurd are
rows_push board (p ∷ passes) (r ∷ rows) pass row are shown = (are.0, rows_push board passes rows pass row are.1 shown)

pub rows_more : (board : RawBoard) (passes after : List (List Ctl))
    (rows rows_after : List (List ℕ)) (pass : List Ctl) (row : List ℕ)
    → AreShownRows board passes rows → AreShownBy board pass row → after ≡ passes ++ pass ∷ []
    → rows_after ≡ rows ++ row ∷ [] → AreShownRows board after rows_after
rows_more board passes after rows rows_after pass row are shown e f = rw (e, f) (rows_push board passes rows pass row are shown)

-- The lemmas from here to the end of the file derive facts about the passes from their rows.

both_same : (board : RawBoard) (pass : List Ctl) (row : List ℕ) (a b : ℕ)
    → AreShownBy board pass row → a < length board.nets → b < length board.nets
    → shows_both a b row ≡ (shows (drivers_at board a) pass && shows (drivers_at board b) pass)
both_same board pass row a b are first second =
    ap (λ t. t && is_in row b) (are.row_are a first)
    ∙ ap (λ t. shows (drivers_at board a) pass && t) (are.row_are b second)

pub any_rows : (board : RawBoard) (passes : List (List Ctl)) (rows : List (List ℕ)) (a b : ℕ)
    → AreShownRows board passes rows → a < length board.nets → b < length board.nets
    → list_any (shows_both a b) rows ≡ are_shown passes (drivers_at board a) (drivers_at board b)
any_rows board [] [] a b are first second = refl
any_rows board [] (row ∷ rows) a b are first second = absurd are
any_rows board (pass ∷ passes) [] a b are first second = absurd are
any_rows board (pass ∷ passes) (row ∷ rows) a b are first second =
    ap (λ t. t || list_any (shows_both a b) rows) (both_same board pass row a b are.0 first second)
    ∙ ap (λ t. (shows (drivers_at board a) pass && shows (drivers_at board b) pass) || t)
    (any_rows board passes rows a b are.1 first second)

pub all_rows : (board : RawBoard) (passes : List (List Ctl)) (rows : List (List ℕ)) (a : ℕ)
    → AreShownRows board passes rows → a < length board.nets
    → list_all (λ row. is_in row a) rows ≡ list_all (shows (drivers_at board a)) passes
all_rows board [] [] a are first = refl
all_rows board [] (row ∷ rows) a are first = absurd are
all_rows board (pass ∷ passes) [] a are first = absurd are
all_rows board (pass ∷ passes) (row ∷ rows) a are first =
    ap (λ t. t && list_all (λ (v : List ℕ). is_in v a) rows) (are.0.row_are a first)
    ∙ ap (λ t. shows (drivers_at board a) pass && t) (all_rows board passes rows a are.1 first)

pub left_more : (board : RawBoard) (passes after : List (List Ctl)) (pass : List Ctl)
    (row left left_after : List ℕ) (a : ℕ) → AreLeft board passes a left → AreShownBy board pass row
    → a < length board.nets → after ≡ passes ++ pass ∷ [] →
    ((n : ℕ) → a / 64 ≤ n / 64 → is_in left_after n ≡ (is_in left n && not (shows_both a n row))) → AreLeft board after a left_after
left_more board passes after pass row left left_after a are shown first e less n from within =
    let p : List Ctl → Bool = λ pass. shows (drivers_at board a) pass && shows (drivers_at board n) pass in
    less n (omega (arith, from)) ∙ ap (λ t. t && not (shows_both a n row)) (are n from within)
    ∙ ap (λ t. not (list_any p passes) && not t)
    (both_same board pass row a n shown first within) ∙ not_or (list_any p passes) (p pass) ∙
    sym
    (ap (λ v. not (list_any p v)) e
    ∙ ap not
    (list_any-append p passes (pass ∷ [])
    ∙ ap (λ t. list_any p passes || t) (or-false (p pass))))
  where
    not_or : (s t : Bool) → (not s && not t) ≡ not (s || t)
    not_or true t = refl
    not_or false t = refl

pub always_whole : (board : RawBoard) (passes : List (List Ctl)) (rows : List (List ℕ))
    (always : List ℕ) (size : ℕ) → AreShownRows board passes rows
    → size ≡ length board.nets / 64 + 1 → length always ≡ size →
    ((n : ℕ) → n / 64 < size → is_in always n ≡ list_all (λ row. is_in row n) rows) → AreShownByAll board passes always
always_whole board passes rows always size are room same each = record {
  always_length = same ∙ room;
  always_are = λ n within. each n (omega (arith, within, room)) ∙ all_rows board passes rows n are within;
}

pub always_more : (board : RawBoard) (passes after : List (List Ctl)) (pass : List Ctl)
    (row always always_after : List ℕ) → AreShownByAll board passes always
    → AreShownBy board pass row → after ≡ passes ++ pass ∷ [] → length always_after ≡ length always
    →
    ((n : ℕ) → is_in always_after n ≡ (is_in always n && is_in row n)) → AreShownByAll board after always_after
always_more board passes after pass row always always_after are shown e same kept = record {
  always_length = same ∙ are.always_length;
  always_are = λ n within.
      let p : List Ctl → Bool = shows (drivers_at board n) in
      kept n ∙ ap (λ t. t && is_in row n) (are.always_are n within)
      ∙ ap (λ t. list_all p passes && t) (shown.row_are n within ∙ sym (and-true (p pass)))
      ∙ sym (ap (list_all p) e ∙ list_all-append p passes (pass ∷ []));
}

pub left_whole : (board : RawBoard) (passes : List (List Ctl)) (rows : List (List ℕ))
    (left : List ℕ) (a size : ℕ) → AreShownRows board passes rows → a < length board.nets
    → size ≡ length board.nets / 64 + 1 →
    ((n : ℕ) → a / 64 ≤ n / 64 → n / 64 < size → is_in left n ≡ not (list_any (shows_both a n) rows)) → AreLeft board passes a left
left_whole board passes rows left a size are first room each n from within =
    each n (omega (arith, from)) (omega (arith, within, room))
    ∙ ap not (any_rows board passes rows a n are first within)
