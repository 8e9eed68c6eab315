-- A condition on a list of passes: each pass has only useful controls.
use Rattle.std.specs.Prelude.{◌≡◌, ℕ, true, List, Some, slice_get}
use Rattle.board_defs.specs.declared.board.Ctl.{Ctl}
use Rattle.board_defs.specs.declared.board.RawBoard.{RawBoard}
use Rattle.board_defs.specs.Settings.{holds}
use Rattle.board_defs.specs.Coverage.{IsUseful}

-- Each control of each pass is useful: the setting with this control alone is safe, and the control enables a tested driver.
abbrev pub HoldUseful : RawBoard → List (List Ctl) → Type 0
HoldUseful board passes = (x : ℕ) (pass : List Ctl) (c : Ctl) → slice_get passes x ≡ Some pass → holds pass c ≡ true → IsUseful board c
