-- The nets that each useful control tests, that is, the nets with a tested driver of this control. A control
-- is useful if it is safe alone and enables a tested driver.
use Rattle.std.specs.Prelude.{◌≡◌, ◌==◌, ◌&&◌, ◌||◌, ℕ, Bool, List, [], length, ltb, Some, slice_get, slice_index_or}
use Rattle.std.specs.List.{list_any}
use Rattle.board_defs.specs.declared.board.Ctl.{Ctl}
use Rattle.board_defs.specs.declared.board.RawBoard.{RawBoard}
use Rattle.board_defs.specs.declared.board.Drive.{Drive}
use Rattle.board_defs.specs.Decided.{is_by}
use Rattle.board_defs.specs.Passes.{useful_controls}
use Rattle.net_classes.specs.Pairs.{drivers_at}
use Rattle.driver_passes.specs.declared.tested.TestedNets.{TestedNets}
use Rattle.driver_passes.specs.inner.Drafts.{has_number}
use Rattle.driver_passes.specs.inner.Shown.{AreShownBy}

-- `c` is the control of one of the drivers
abbrev pub drives : Ctl → List Drive → Bool
drives c drivers = list_any (λ d. is_by c (Some d)) drivers

-- net `net` is added to the list of each useful control that satisfies the test, and nothing else changes
abbrev pub AreNoted : RawBoard → ℕ → (Ctl → Bool) → List (List ℕ) → List (List ℕ) → Type 0
AreNoted board net passes before after =
    (place : ℕ) (c : Ctl) → slice_get (useful_controls board) place ≡ Some c → (n : ℕ)
    → has_number (slice_index_or after place []) n
    ≡ ((n == net && passes c) || has_number (slice_index_or before place []) n)

-- Each useful control has a list of nets. The list has the nets below `most` with a tested driver of this control.
pub record AreListed (board : RawBoard) (most : ℕ) (lists : List (List ℕ)) : Type 0 where
  pub lists_length : length lists ≡ length (useful_controls board)
  pub lists_are : (place : ℕ) (c : Ctl) → slice_get (useful_controls board) place ≡ Some c → (n : ℕ)
      → has_number (slice_index_or lists place []) n ≡ (ltb n most && drives c (drivers_at board n))

-- `steady` has the nets with a tested driver that is always on, and `by_control` the nets that each useful control tests
pub record AreTestedNets (board : RawBoard) (nets : TestedNets) : Type 0 where
  pub steady : AreShownBy board [] nets.steady
  pub by_control : AreListed board (length board.nets) nets.by_control.items
