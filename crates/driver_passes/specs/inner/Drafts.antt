-- A pass that is being made. One set has the places of the useful controls in the pass. The other set has the
-- places of the useful controls that can be added. A control is useful if it is safe alone and enables a
-- tested driver.
use Rattle.std.specs.Prelude.{◌≡◌, ℕ, suc, ◌+◌, ◌/◌, ◌==◌, ◌&&◌, Bool, not, cond, List, [], ◌∷◌, length, Some, slice_get}
use Rattle.std.specs.List.{list_any}
use Rattle.board_defs.specs.declared.board.Ctl.{Ctl}
use Rattle.board_defs.specs.declared.board.RawBoard.{RawBoard}
use Rattle.board_defs.specs.Settings.{inserted}
use Rattle.board_defs.specs.Passes.{joins_setting, useful_controls}
use Rattle.driver_passes.specs.inner.NumberSets.{is_in}

-- a pass that is being made: its board, and the setting so far
pub record Drafted : Type 0 where
  pub board : RawBoard
  pub setting : List Ctl

abbrev pub drafted : RawBoard → List Ctl → Drafted
drafted board setting = record { board = board; setting = setting }

-- the pass with the control added
abbrev pub draft_with : Drafted → Ctl → Drafted
draft_with draft c = drafted draft.board (inserted c draft.setting)

-- the controls whose places satisfy the test; `place` is the place of the first control in the list
abbrev pub passing_controls : (ℕ → Bool) → ℕ → List Ctl → List Ctl
passing_controls passes place [] = []
passing_controls passes place (c ∷ controls) =
    cond (passes place) (c ∷ passing_controls passes (suc place) controls)
    (passing_controls passes (suc place) controls)

-- the number is in the list
abbrev pub has_number : List ℕ → ℕ → Bool
has_number numbers n = list_any (λ m. m == n) numbers

-- the setting of the useful controls whose places are in the set
abbrev pub setting_of : RawBoard → List ℕ → List Ctl
setting_of board held = passing_controls (is_in held) 0 (useful_controls board)

-- `held` has room for each useful control. `free` has the places of the useful controls that can be added: the place is not in `held`, and
-- the control is together with every control whose place is in `held`. Two controls are together if the setting with just these two is
-- safe.
pub record IsDraft (board : RawBoard) (held free : List ℕ) : Type 0 where
  pub held_length : length held ≡ length (useful_controls board) / 64 + 1
  pub free_are : (place : ℕ) (c : Ctl) → slice_get (useful_controls board) place ≡ Some c
      → is_in free place ≡ (not (is_in held place) && joins_setting board (setting_of board held) c)
