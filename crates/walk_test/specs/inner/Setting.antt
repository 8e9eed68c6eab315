-- The controls of switching drivers, as the code finds them pin by pin. A switching driver is enabled by its
-- own cell, on an unguarded net that is pulled to the driver's disable value. A net is guarded if, for
-- example, it carries a supply.
use Rattle.std.specs.Prelude.{ℕ, ◌==◌, Bool, ◌&&◌, if◌then◌else◌, List, [], fold, Option, Some, None}
use Rattle.board_defs.specs.declared.device.Control.{Control}
use Rattle.board_defs.specs.declared.device.Cell.{Cell}
use Rattle.board_defs.specs.declared.board.PinAt.{PinAt}
use Rattle.board_defs.specs.declared.board.NetPin.{NetPin}
use Rattle.board_defs.specs.declared.board.Net.{Net}
use Rattle.board_defs.specs.declared.board.RawBoard.{RawBoard}
use Rattle.board_defs.specs.declared.board.Ctl.{Ctl}
use Rattle.board_defs.specs.Pins.{entry_at, guarded, is_pulled_to}
use Rattle.board_defs.specs.Settings.{inserted}

-- the control of a driver, if the driver's own cell is the control cell and the net is pulled to the disable
-- value; otherwise, or if the driver has no control, `None`
abbrev pub own_switch : ℕ → ℕ → Option Bool → Option Control → Option Ctl
own_switch part num pull None = None
own_switch part num pull (Some control) =
    if (control.cell == num) && is_pulled_to control.disable pull
    then Some (record { part = part; cell = control.cell }) else None

-- like `own_switch`, but takes the driving entry of the pin; `None` if the pin has no driving entry
abbrev pub entry_switch : ℕ → Option Bool → Option Cell → Option Ctl
entry_switch part pull None = None
entry_switch part pull (Some cell) = own_switch part cell.num pull cell.ctl

abbrev pub pin_switch : RawBoard → Option Bool → Option PinAt → Option Ctl
pin_switch board pull None = None
pin_switch board pull (Some at) = entry_switch at.part pull (entry_at board at)

-- adds the control to the setting, or leaves the setting unchanged if no control is given
abbrev pub with_some : List Ctl → Option Ctl → List Ctl
with_some setting None = setting
with_some setting (Some c) = inserted c setting

-- Adds to the setting the controls of the switching drivers among `pins`, which must be pins of one unguarded net. `pull` is the pull of
-- this net.
abbrev pub with_pins : RawBoard → Option Bool → List Ctl → List NetPin → List Ctl
with_pins board pull setting pins = fold (λ s pin. with_some s (pin_switch board pull pin.at)) setting pins

-- adds to the setting the controls of the net's switching drivers; no pin of a guarded net is a switching driver
abbrev pub with_net : RawBoard → List Ctl → Net → List Ctl
with_net board setting net = if guarded board net then setting else with_pins board net.pull setting net.pins

-- the controls of all switching drivers of these nets
abbrev pub all_switching : RawBoard → List Net → List Ctl
all_switching board nets = fold (with_net board) [] nets
