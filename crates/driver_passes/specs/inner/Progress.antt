-- The passes that are made so far, with the controls that they have and the nets that they show. A pass shows
-- a net if it enables a tested driver of the net. A control is useful if it is safe alone and enables a
-- tested driver.
use Rattle.std.specs.Prelude.{◌≡◌, ◌<◌, ◌+◌, ◌/◌, ℕ, Bool, true, List, drop, length, Some, slice_get, Contains}
use Rattle.std.specs.List.{flat_map, list_any}
use Rattle.board_defs.specs.declared.board.Ctl.{Ctl}
use Rattle.board_defs.specs.declared.board.RawBoard.{RawBoard}
use Rattle.board_defs.specs.declared.board.Drive.{Drive}
use Rattle.board_defs.specs.Settings.{holds}
use Rattle.board_defs.specs.Passes.{add_for_driver, drivers_by_net, is_enabled, useful_controls}
use Rattle.net_classes.specs.Pairs.{drivers_at}
use Rattle.driver_passes.specs.declared.drivers.Progress.{Progress}
use Rattle.driver_passes.specs.inner.NumberSets.{is_in}
use Rattle.driver_passes.specs.Useful.{HoldUseful}
use Rattle.driver_passes.specs.inner.Shown.{AreShownRows}

-- the control is in some pass
abbrev pub is_held : List (List Ctl) → Ctl → Bool
is_held passes c = list_any (λ pass. holds pass c) passes

-- The set has the places of those useful controls that are in some pass, and has room for each useful control. A place is a place in the
-- list of useful controls.
pub record AreHeld (board : RawBoard) (passes : List (List Ctl)) (held : List ℕ) : Type 0 where
  pub held_length : length held ≡ length (useful_controls board) / 64 + 1
  pub held_are : (i : ℕ) (c : Ctl) → slice_get (useful_controls board) i ≡ Some c → is_in held i ≡ is_held passes c

-- The state of a `Progress`. The passes so far have only useful controls, `held` has the places of these controls, and each row has the
-- nets that its pass shows.
pub record IsProgress (board : RawBoard) (progress : Progress) : Type 0 where
  pub held : AreHeld board progress.passes.items progress.held
  pub useful : HoldUseful board progress.passes.items
  pub rows : AreShownRows board progress.passes.items progress.rows.items

-- for each tested driver, some pass enables the driver
abbrev pub EnableTested : RawBoard → List (List Ctl) → Type 0
EnableTested board passes =
    (n : ℕ) (d : Drive) → n < length board.nets → Contains (drivers_at board n) d
    → list_any (λ pass. is_enabled pass d) passes ≡ true

-- the passes, followed by a pass for the driver unless some pass enables the driver
abbrev pub enabling : RawBoard → List (List Ctl) → Drive → List (List Ctl)
enabling board = add_for_driver board (useful_controls board)

-- the tested drivers of net `n` and of each later net, in net order
abbrev pub drivers_from : RawBoard → ℕ → List Drive
drivers_from board n = flat_map (λ drivers. drivers) (drop n (drivers_by_net board))
