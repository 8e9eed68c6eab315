-- Lemmas about the two sets of a draft, that is, a pass that is being made: the controls in the pass, and the
-- controls that can be added. A control is useful if it is safe alone and enables a tested driver.
use Rattle.std.proofs.Common.{◌≡◌, ◌⊎◌, inl, inr, ℕ, ◌+◌, ◌/◌, ◌<◌, Bool, true, false, not, ◌&&◌, ◌||◌, List, [], length, get_or, Some, sym, ◌∙◌, ap, arith}
use Rattle.std.specs.Prelude.{◌==◌, slice_get}
use Rattle.std.specs.List.{list_any}
use Rattle.std.proofs.Math.Bool.{and-false, and-true}
use Rattle.std.proofs.lemmas.Bool.{cases_eq, eq-eqb, ne_eqb}
use Rattle.std.proofs.lemmas.Option.{slice_get_within}
use Rattle.lists.proofs.ListLemmas.{list_any_same}
use Rattle.board_defs.specs.declared.board.Ctl.{Ctl}
use Rattle.board_defs.specs.declared.board.RawBoard.{RawBoard}
use Rattle.board_defs.specs.Decided.{are_together}
use Rattle.board_defs.specs.Settings.{holds, inserted, IsInControlOrder}
use Rattle.board_defs.specs.Passes.{joins_setting, useful_controls}
use Rattle.board_defs.specs.Laws.{PassesAre, DecidesTerms}
use Rattle.net_facts.specs.Kept.{shared_nets}
use Rattle.net_classes.specs.Laws.{NetsAreShared}
use Rattle.driver_passes.specs.declared.blocks.Block.{Block}
use Rattle.driver_passes.specs.inner.Blocks.{has_place}
use Rattle.driver_passes.specs.inner.Drafts.{has_number, setting_of, IsDraft}
use Rattle.driver_passes.specs.inner.NumberSets.{is_in}
use Rattle.driver_passes.specs.inner.Sharers.{is_listed, AreSharers, LosesApart}
use Rattle.driver_passes.proofs.ControlLemmas.{all_inserted, other_place}
use Rattle.driver_passes.proofs.ChosenLemmas.{chosen_none, chosen_set}
use Rattle.driver_passes.proofs.FitLemmas.{common_swap, holds_at, together_is, useful_safe}

pub blank_empty : (board : RawBoard) (held : List ℕ) → ((n : ℕ) → is_in held n ≡ false) → setting_of board held ≡ []
blank_empty board held none = chosen_none (is_in held) 0 (useful_controls board) none

pub blank_draft : (board : RawBoard) (held free : List ℕ)
    → length held ≡ length (useful_controls board) / 64 + 1 → ((n : ℕ) → is_in held n ≡ false)
    → ((n : ℕ) → n < length (useful_controls board) → is_in free n ≡ true) → IsDraft board held free
blank_draft board held free room none all = record {
  held_length = room;
  free_are =
      λ place c stands. all place (slice_get_within (useful_controls board) place c stands)
      ∙ sym
      (ap (λ t. not t && joins_setting board (setting_of board held) c) (none place)
      ∙ ap (λ s. joins_setting board s c) (blank_empty board held none));
}

-- `after` is the set `before` with the place added
abbrev pub IsAdded : ℕ → List ℕ → List ℕ → Type 0
IsAdded place before after = (n : ℕ) → is_in after n ≡ ((n == place && true) || is_in before n)

pub added_setting : (board : RawBoard) (before after : List ℕ) (place : ℕ) (c : Ctl)
    → IsInControlOrder (useful_controls board) → slice_get (useful_controls board) place ≡ Some c
    → IsAdded place before after → setting_of board after ≡ inserted c (setting_of board before)
added_setting board before after place c order stands added =
    chosen_set (is_in before) (is_in after) 0 place place (useful_controls board) c order
    (omega arith) (λ n. added n ∙ ap (λ t. t || is_in before n) (and-true (n == place))) stands

-- Two different useful controls are together, that is, the setting with just these two is safe, unless they share a net. So the places to
-- remove are those listed for the nets that `c` shares with other controls.
pub loses_listed : (board : RawBoard) (sharers : List (List Block)) (nets : List ℕ) (c : Ctl)
    (before after : List ℕ) → PassesAre board → DecidesTerms board → NetsAreShared
    → AreSharers board sharers → nets ≡ shared_nets board c → holds (useful_controls board) c ≡ true
    →
    ((q : ℕ) → is_in after q ≡ (is_in before q && not (is_listed sharers nets q))) → LosesApart board c before after
loses_listed board sharers nets c before after are decides shared listed is useful closed q e at other =
    closed q ∙
    ap (λ t. is_in before q && t)
    (sym
    (together_is board e c shared
    (useful_safe board e are decides (holds_at (useful_controls board) q e at))
    (useful_safe board c are decides useful) other ∙
    ap not
    (common_swap (shared_nets board e) (shared_nets board c) ∙ sym
    (list_any_same (λ n. has_place (get_or sharers n []) q) (has_number (shared_nets board e))
    (listed q e at) nets ∙ ap (list_any (has_number (shared_nets board e))) is))))

pub added_draft : (board : RawBoard) (held free held_after kept free_after : List ℕ) (place : ℕ)
    (c : Ctl) → PassesAre board → IsDraft board held free
    → slice_get (useful_controls board) place ≡ Some c → length held_after ≡ length held
    → IsAdded place held held_after → LosesApart board c free kept
    → ((q : ℕ) → is_in free_after q ≡ (is_in kept q && not (q == place)))
    → IsDraft board held_after free_after
added_draft board held free held_after kept free_after place c are is stands room added apart removed = record {
  held_length = room ∙ is.held_length;
  free_are =
      λ q e at. removed q ∙ by_place q e at (cases_eq q place)
      ∙ sym
      (ap (λ t. not t && joins_setting board (setting_of board held_after) e) (added q)
      ∙ ap (λ s. not ((q == place && true) || is_in held q) && joins_setting board s e)
      (added_setting board held held_after place c are.said.useful_in_order stands added));
}
  where
    s : List Ctl
    s = setting_of board held

    turn : (o h f t : Bool) → o ≡ (not h && f) → ((o && t) && true) ≡ (not h && (t && f))
    turn o true f t e = ap (λ u. (u && t) && true) e
    turn o false f true e = and-true (o && true) ∙ and-true o ∙ e
    turn o false f false e = and-true (o && false) ∙ and-false o

    by_place : (q : ℕ) (e : Ctl) → slice_get (useful_controls board) q ≡ Some e
        → (q ≡ place) ⊎ (q ≡ place → ⊥)
        → (is_in kept q && not (q == place))
        ≡ (not ((q == place && true) || is_in held q) && joins_setting board (inserted c s) e)
    by_place q e at (inl one) =
        ap (λ t. is_in kept q && not t) (eq-eqb q place one) ∙ and-false (is_in kept q)
        ∙ sym
        (ap (λ t. not ((t && true) || is_in held q) && joins_setting board (inserted c s) e)
        (eq-eqb q place one))
    by_place q e at (inr differ) =
        ap (λ t. is_in kept q && not t) (ne_eqb q place differ)
        ∙ ap (λ t. t && true)
        (apart q e at
        (other_place (useful_controls board) place q c e are.said.useful_in_order stands
        at (λ g. differ (sym g)))) ∙
        turn (is_in free q) (is_in held q) (joins_setting board s e) (are_together board e c) (is.free_are q e at) ∙
        ap (λ t. not (is_in held q) && t) (sym (all_inserted (are_together board e) c s))
        ∙ sym
        (ap (λ t. not ((t && true) || is_in held q) && joins_setting board (inserted c s) e)
        (ne_eqb q place differ))
