-- The steps that make the tables of a plan.
use Rattle.std.specs.Prelude.{◌≡◌, ℕ, ◌<◌, List, [], map, filter, fold, Option, Some, option_map, is_none, replicate}
use Rattle.lists.specs.Rows.{noted}
use Rattle.board_defs.specs.declared.board.Net.{Net}
use Rattle.board_defs.specs.declared.board.RawBoard.{RawBoard}
use Rattle.board_defs.specs.declared.board.Ctl.{Ctl}
use Rattle.board_defs.specs.Pins.{device_at, cell_count}
use Rattle.plan_tables.specs.declared.tables.DriverCell.{DriverCell}
use Rattle.net_pins.specs.declared.nets.ReaderCell.{ReaderCell}
use Rattle.net_pins.specs.declared.nets.NetDriver.{NetDriver}
use Rattle.net_pins.specs.NetCells.{gathered, drivers_of, readers_of}
use Rattle.net_pins.specs.Enabled.{is_read_beside}
use Rattle.plan_tables.specs.declared.observers.Observer.{Observer}
use Rattle.plan_tables.specs.declared.controls.DriverTable.{DriverTable}
use Rattle.plan_tables.specs.Tables.{control_position}

-- the cell of a driver of net number `net`
abbrev pub driver_cell : ℕ → NetDriver → DriverCell
driver_cell net d = record { net = net; place = d.place; position = d.position }

-- if there is a control, the number of its cell is less than the number of cells of the control's part
abbrev pub IsControlThere : RawBoard → Option Ctl → Type 0
IsControlThere board ctl = (c : Ctl) → ctl ≡ Some c → c.cell < cell_count (device_at board c.part)

-- the driver of net number `net` as an observer: the position of its control, if it has one, and its cell
abbrev pub observer : RawBoard → ℕ → NetDriver → Observer
observer board net d = record { control = option_map (control_position board) d.ctl; cell = driver_cell net d }

-- the observers of a net with these drivers and compared cells: the drivers for which a cell reads another pin of the net
abbrev pub observers_of : RawBoard → ℕ → List NetDriver → List ReaderCell → List Observer
observers_of board net drivers readers = map (observer board net) (filter (is_read_beside readers) drivers)

abbrev pub observers_at : RawBoard → ℕ → Net → List Observer
observers_at board n net = observers_of board n (drivers_of board net) (readers_of board net.pins)

-- the observers of these nets, in net order
abbrev pub observers : RawBoard → List Net → List Observer
observers board nets = gathered (observers_at board) 0 nets

-- the cells of the observers that are always on
abbrev pub always_on_cells : List Observer → List DriverCell
always_on_cells observers = map (λ x. x.cell) (filter (λ x. is_none x.control) observers)

-- appends the cell of each of these observers to the item of `rows` at the position of the observer's control; ignores observers without a
-- control
abbrev pub observers_noted : List (List DriverCell) → List Observer → List (List DriverCell)
observers_noted rows observers = fold (λ done x. noted done x.control x.cell) rows observers

-- the table of these observers, for data scans of `bits` bits
abbrev pub table_of : List Observer → ℕ → DriverTable
table_of observers bits = record { always = always_on_cells observers; rows = observers_noted (replicate bits []) observers }
