-- The tables of a plan: the rows that all passes share, and the positions at which the rows of a pass differ from the quiet row. The quiet
-- row disables every driver that has a control.
use Rattle.std.specs.Prelude.{◌≡◌, ◌≢◌, ◌↔◌, ℕ, ◌+◌, Bool, true, false, not, List, [], ◌++◌, length, map, Some, slice_get, slice_index_or, unwrap_or, Contains}
use Rattle.std.specs.List.{flat_map}
use Rattle.board_defs.specs.declared.device.Cell.{Cell}
use Rattle.board_defs.specs.declared.device.RawDevice.{RawDevice}
use Rattle.board_defs.specs.declared.board.PinAt.{PinAt}
use Rattle.board_defs.specs.declared.board.NetPin.{NetPin}
use Rattle.board_defs.specs.declared.board.Net.{Net}
use Rattle.board_defs.specs.declared.board.RawBoard.{RawBoard}
use Rattle.board_defs.specs.declared.board.Ctl.{Ctl}
use Rattle.board_defs.specs.DeviceRules.{reads_bit, disable_of}
use Rattle.board_defs.specs.Pins.{device_at, entry_at, receives_where}
use Rattle.board_defs.specs.Settings.{holds}
use Rattle.tap_defs.specs.chain.Scan.{joined, tdi_bits}
use Rattle.tap_defs.specs.chain.ScanRows.{AreRowsOf}
use Rattle.tap_defs.specs.chain.Codes.{instructs}
use Rattle.tap_defs.specs.board.TestRows.{observing_driver}
use Rattle.tap_defs.specs.board.BoardScans.{row_bits, first_row_scan, preload_code, extest_code}
use Rattle.plan_tables.specs.declared.tables.HeldCell.{HeldCell}
use Rattle.plan_tables.specs.declared.tables.DriverCell.{DriverCell}
use Rattle.net_pins.specs.declared.nets.ReaderCell.{ReaderCell}
use Rattle.plan_tables.specs.declared.controls.DriverTable.{DriverTable}
use Rattle.plan_tables.specs.declared.tables.PlanTables.{PlanTables}
pub use Rattle.net_pins.specs.Positions.{first_position, AreFirsts}

-- the position of the control's cell in data scans
abbrev pub control_position : RawBoard → Ctl → ℕ
control_position board c = first_position board c.part + c.cell

-- `h` is the cell of a control of the pass. Its bit is the opposite of the disable value of this cell, or 1 if no entry has this cell as
-- its control.
pub record IsHeldCell (board : RawBoard) (pass : List Ctl) (h : HeldCell) : Type 0 where
  pub control : Ctl
  pub is_held : holds pass control ≡ true
  pub device : RawDevice
  pub is_device : device_at board control.part ≡ Some device
  pub position_is : h.position ≡ first_position board control.part + control.cell
  pub bit_is : h.bit ≡ not (unwrap_or (disable_of device control.cell) false)

-- `d` is the cell of the driver by which the pass observes a net
pub record IsDriverCell (board : RawBoard) (pass : List Ctl) (d : DriverCell) : Type 0 where
  pub net : Net
  pub is_net : slice_get board.nets d.net ≡ Some net
  pub observing : observing_driver board (holds pass) net ≡ Some d.place
  pub pin : NetPin
  pub is_pin : slice_get net.pins d.place ≡ Some pin
  pub at : PinAt
  pub is_at : pin.at ≡ Some at
  pub entry : Cell
  pub is_entry : entry_at board at ≡ Some entry
  pub position_is : d.position ≡ first_position board at.part + entry.num

-- `r` is a compared cell (INPUT, CLOCK or BIDIR) of a receiver on the net
pub record IsReaderCell (board : RawBoard) (net : Net) (r : ReaderCell) : Type 0 where
  pub pin : NetPin
  pub is_pin : slice_get net.pins r.place ≡ Some pin
  pub at : PinAt
  pub is_at : pin.at ≡ Some at
  pub receives : receives_where board (Some at) ≡ true
  pub device : RawDevice
  pub is_device : device_at board at.part ≡ Some device
  pub entry : Cell
  pub is_entry : Contains device.cells entry
  pub reads : reads_bit at.bit entry ≡ true
  pub position_is : r.position ≡ first_position board at.part + entry.num

-- The cells of the controls of a pass, and those driver cells of the pass that are not steady. A steady driver cell is a driver cell of
-- every pass, and a plan lists it only once.
pub record PassCells : Type 0 where
  pub held : List HeldCell
  pub drivers : List DriverCell

-- the cell of a control, with the opposite of the cell's bit in the quiet row
abbrev pub held_cell : RawBoard → List Bool → Ctl → HeldCell
held_cell board quiet c = record { position = control_position board c; bit = not (slice_index_or quiet (control_position board c) false) }

-- the driver cells of control `c`; `rows` has a list of driver cells for the position of each control
abbrev pub controlled : RawBoard → List (List DriverCell) → Ctl → List DriverCell
controlled board rows c = slice_index_or rows (control_position board c) []

-- the driver cells that the table has for a pass: the always-on ones, and those of the controls; `held` has the cells of the pass's
-- controls
abbrev pub cells_on : DriverTable → List HeldCell → List DriverCell
cells_on table held = table.always ++ flat_map (λ h. slice_index_or table.rows h.position []) held

-- the cells of a pass, found from its controls
abbrev pub pass_cells_of : RawBoard → List Bool → DriverTable → List Ctl → PassCells
pass_cells_of board quiet table pass =
    let held : List HeldCell = map (held_cell board quiet) pass in
    record { held = held; drivers = cells_on table held }

-- `cells` has the cells of a pass, in any order. `held` has the cells of the pass's controls. `steady` has the driver cells that all passes
-- share. `steady` and `drivers` together have the cells of the drivers by which the pass observes nets. No steady cell is the cell of a
-- control of the pass.
pub record ArePassCells (board : RawBoard) (steady : List DriverCell) (pass : List Ctl) (cells : PassCells) : Type 0 where
  pub held : (h : HeldCell) → Contains cells.held h ↔ IsHeldCell board pass h
  pub drivers : (d : DriverCell) → Contains (steady ++ cells.drivers) d ↔ IsDriverCell board pass d
  pub apart : (h : HeldCell) (d : DriverCell) → Contains cells.held h → Contains steady d → h.position ≢ d.position

-- the list has exactly the compared cells of the net, in any order
abbrev pub AreReaders : RawBoard → Net → List ReaderCell → Type 0
AreReaders board net readers = (r : ReaderCell) → Contains readers r ↔ IsReaderCell board net r

-- `plan` has the two instruction scans, the quiet row, the position of each part's first bit, the cells of each pass, and the compared
-- cells of each net of the board
pub record ArePlanTables (board : RawBoard) (plan : PlanTables) : Type 0 where
  pub preload : AreRowsOf ((instructs (map (λ part. preload_code part.kind) board.chain)).bits) plan.preload
  pub extest : AreRowsOf ((instructs (map (λ part. extest_code part.kind) board.chain)).bits) plan.extest
  pub quiet : plan.quiet.bits ≡ tdi_bits (joined (row_bits board first_row_scan))
  pub firsts : AreFirsts board.chain plan.firsts
  pub cells : (x : ℕ) (pass : List Ctl) → slice_get plan.passes x ≡ Some pass
      → (cells : PassCells) × (cells ≡ pass_cells_of board plan.quiet.bits plan.by_control pass)
      × ArePassCells board plan.steady pass cells
  pub readers : (n : ℕ) (net : Net) → slice_get board.nets n ≡ Some net
      → (readers : List ReaderCell) × (slice_get plan.nets.readers n ≡ Some readers)
      × AreReaders board net readers
  pub readers_length : length plan.nets.readers ≡ length board.nets
