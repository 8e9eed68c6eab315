-- The law that a plan can be made from safe passes of useful controls.
use Rattle.std.specs.Prelude.{◌≡◌, ℕ, true, List, Some, slice_get}
use Rattle.std.specs.List.{list_any}
use Rattle.board_defs.specs.declared.board.RawBoard.{RawBoard}
use Rattle.board_defs.specs.declared.board.Ctl.{Ctl}
use Rattle.board_defs.specs.BoardRules.{IsBoard}
use Rattle.board_defs.specs.Settings.{IsSafe, holds}
use Rattle.board_defs.specs.Decided.{drives_net, is_useful}
use Rattle.plan_tables.specs.Plans.{controls_some, ArePlannable}

-- each pass is safe
abbrev pub AreSafe : RawBoard → List (List Ctl) → Type 0
AreSafe board passes = (x : ℕ) (pass : List Ctl) → slice_get passes x ≡ Some pass → IsSafe board (holds pass)

-- each control of each pass is useful: the setting with this control alone is safe and enables a tested driver
abbrev pub AreUseful : RawBoard → List (List Ctl) → Type 0
AreUseful board passes =
    (x : ℕ) (pass : List Ctl) (c : Ctl) → slice_get passes x ≡ Some pass → holds pass c ≡ true
    → is_useful board c ≡ true

-- Every control of a net's driver, and every useful control, controls a driver of the board. So a plan can be made from safe passes of
-- useful controls.
pub record PlansUseful (board : RawBoard) : Type 0 where
  pub of_nets : (c : Ctl) → list_any (drives_net board c) board.nets ≡ true → controls_some board c ≡ true
  pub useful : (c : Ctl) → is_useful board c ≡ true → controls_some board c ≡ true
  pub passes : (passes : List (List Ctl)) → AreSafe board passes → AreUseful board passes → ArePlannable board passes

-- every board that keeps the rules of boards has the property `PlansUseful`
abbrev pub UsefulPlanned : Type 0
UsefulPlanned = (board : RawBoard) → IsBoard board → PlansUseful board
