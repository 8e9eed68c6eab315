-- The tables that btest keeps for the pins of a board. A net is guarded if it carries a supply, or has a pin
-- of a test access port, a pin that compliance patterns name, or a dark pin.
use Rattle.std.specs.Prelude.{◌≡◌, map}
use Rattle.board_defs.specs.declared.board.RawBoard.{RawBoard}
use Rattle.board_defs.specs.Pins.{guarded}
use Rattle.port_entries.specs.Entries.{AreEntries}
use Rattle.net_pins.specs.declared.pin_tables.PinTables.{PinTables}
use Rattle.net_pins.specs.declared.net_tables.NetTables.{NetTables}
use Rattle.net_pins.specs.declared.pins.NetPins.{NetPins}
use Rattle.net_pins.specs.Positions.{AreFirsts}
use Rattle.net_pins.specs.NetCells.{all_drivers, all_readers}

-- The tables have the position of each part's first bit in data scans, the entries of each port bit, and a flag for each net that says
-- whether the net is guarded.
pub record ArePinTables (board : RawBoard) (tables : PinTables) : Type 0 where
  pub firsts : AreFirsts board.chain tables.firsts
  pub entries : AreEntries board tables.entries
  pub guards : tables.guarded ≡ map (guarded board) board.nets

-- The tables have, for each net of the board, its drivers and its compared cells. They leave out the drivers of guarded nets.
pub record AreNetTables (board : RawBoard) (nets : NetTables) : Type 0 where
  pub drivers_are : nets.drivers ≡ all_drivers board
  pub readers_are : nets.readers ≡ all_readers board

-- the pin tables of the board, and the drivers and the compared cells of its nets
pub record AreNetPins (board : RawBoard) (pins : NetPins) : Type 0 where
  pub finding : ArePinTables board pins.tables
  pub nets_are : AreNetTables board pins.nets
