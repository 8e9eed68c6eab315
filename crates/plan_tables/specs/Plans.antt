-- The definition of a plan for a board. A plan has the tables from which each scan of the board's test is made.
use Rattle.std.specs.Prelude.{◌≡◌, ℕ, Bool, true, false, cond, List, length, Option, Some, None, slice_get, slice_index_or}
use Rattle.std.specs.List.{list_any}
use Rattle.board_defs.specs.declared.device.RawDevice.{RawDevice}
use Rattle.board_defs.specs.declared.board.Net.{Net}
use Rattle.board_defs.specs.declared.board.RawBoard.{RawBoard}
use Rattle.board_defs.specs.declared.board.Ctl.{Ctl}
use Rattle.board_defs.specs.Pins.{device_at}
use Rattle.board_defs.specs.Settings.{IsSafe, holds}
use Rattle.tap_defs.specs.board.Quiet.{controls_driver}
use Rattle.tap_defs.specs.board.TestRows.{is_observed, code_of_net, observed_count, code_width}
use Rattle.plan_tables.specs.declared.tables.PlanTables.{PlanTables}
use Rattle.plan_tables.specs.Tables.{ArePlanTables}
use Rattle.net_pins.specs.Tables.{AreNetTables}

-- The largest number of rows of a pass, which is the largest number of bits of a code. `most_nets` nets need 14 bits, since `most_nets + 2`
-- is 2^14.
abbrev pub most_rows : ℕ
most_rows = 14

-- the part of control `c` has the description `device`, and the control controls a driver of this device
abbrev pub controls_driver_in : RawBoard → Ctl → Option RawDevice → Bool
controls_driver_in board c None = false
controls_driver_in board c (Some device) = list_any (controls_driver board c.part c.cell) device.cells

-- control `c` controls a driver of the board
abbrev pub controls_some : RawBoard → Ctl → Bool
controls_some board c = controls_driver_in board c (device_at board c.part)

-- A plan can be made from these passes: each pass is safe, and each control of a pass controls a driver of the board.
pub record ArePlannable (board : RawBoard) (passes : List (List Ctl)) : Type 0 where
  pub safe : (x : ℕ) (pass : List Ctl) → slice_get passes x ≡ Some pass → IsSafe board (holds pass)
  pub controls : (x : ℕ) (pass : List Ctl) (c : Ctl) → slice_get passes x ≡ Some pass → holds pass c ≡ true → controls_some board c ≡ true

-- the code of a net: its number among the nets that some pass observes, counted from 1, or 0 if no pass observes it
abbrev pub code_or_zero : RawBoard → List (List Ctl) → ℕ → Net → ℕ
code_or_zero board passes n net = cond (is_observed board passes net) (code_of_net board passes n) 0

-- `plan` is a plan of the board: it can be made from the passes in `plan.passes`, and its codes, their width and its tables are those of
-- the board and these passes
pub record IsPlanOf (board : RawBoard) (plan : PlanTables) : Type 0 where
  pub plannable : ArePlannable board plan.passes
  pub width_is : plan.width ≡ code_width (observed_count board plan.passes)
  pub codes_are : (n : ℕ) (net : Net) → slice_get board.nets n ≡ Some net
      → slice_index_or plan.codes n 0 ≡ code_or_zero board plan.passes n net
  pub codes_length : length plan.codes ≡ length board.nets
  pub tables : ArePlanTables board plan
  pub nets_are : AreNetTables board plan.nets
