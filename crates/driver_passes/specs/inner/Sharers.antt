-- The useful controls that share each net with another control. Two controls share a net if each of them
-- controls a driver of the net. A control is useful if it is safe alone and enables a tested driver.
use Rattle.std.specs.Prelude.{◌≡◌, ◌&&◌, ℕ, Bool, false, List, [], length, ltb, Some, slice_get, slice_index_or}
use Rattle.std.specs.List.{list_any}
use Rattle.board_defs.specs.declared.board.Ctl.{Ctl}
use Rattle.board_defs.specs.declared.board.RawBoard.{RawBoard}
use Rattle.board_defs.specs.Decided.{are_together}
use Rattle.board_defs.specs.Settings.{same_ctl}
use Rattle.board_defs.specs.Passes.{useful_controls}
use Rattle.net_facts.specs.Kept.{shared_nets}
use Rattle.driver_passes.specs.declared.blocks.Block.{Block}
use Rattle.driver_passes.specs.inner.Blocks.{has_place}
use Rattle.driver_passes.specs.inner.Drafts.{has_number}
use Rattle.driver_passes.specs.inner.NumberSets.{is_in}

-- Each net has a list of places in the list of useful controls. The list has those places below `most` whose control shares the net with
-- another control.
pub record AreSharersBelow (board : RawBoard) (most : ℕ) (sharers : List (List ℕ)) : Type 0 where
  pub sharers_length : length sharers ≡ length board.nets
  pub sharers_are : (place : ℕ) (c : Ctl) → slice_get (useful_controls board) place ≡ Some c
      → (n : ℕ)
      → has_number (slice_index_or sharers n []) place
      ≡ (ltb place most && has_number (shared_nets board c) n)

-- Each net has a set of places: the places of the useful controls that share the net with another control.
abbrev pub AreSharers : RawBoard → List (List Block) → Type 0
AreSharers board sharers =
    (place : ℕ) (c : Ctl) → slice_get (useful_controls board) place ≡ Some c → (n : ℕ)
    → has_place (slice_index_or sharers n []) place ≡ has_number (shared_nets board c) n

-- the place is in the set of one of these nets
abbrev pub is_listed : List (List Block) → List ℕ → ℕ → Bool
is_listed sharers nets place = list_any (λ n. has_place (slice_index_or sharers n []) place) nets

-- The set loses the places of those useful controls that are not together with `c`, and no other place. Two controls are together if the
-- setting with just these two is safe. The definition does not say whether the place of `c` itself stays.
abbrev pub LosesApart : RawBoard → Ctl → List ℕ → List ℕ → Type 0
LosesApart board c before after =
    (q : ℕ) (e : Ctl) → slice_get (useful_controls board) q ≡ Some e → same_ctl e c ≡ false
    → is_in after q ≡ (is_in before q && are_together board e c)
