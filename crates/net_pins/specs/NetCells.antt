-- The cells that drive and read each net. A compared cell is a boundary cell that has an INPUT, CLOCK or
-- BIDIR entry for the port bit of a receiver. A test compares the bit that such a cell captures. A net is
-- guarded if it carries a supply, or has a pin of a test access port, a pin that compliance patterns name, or
-- a dark pin.
use Rattle.std.specs.Prelude.{ℕ, suc, ◌+◌, cond, List, [], ◌∷◌, ◌++◌, map, filter, Option, Some, None, option_map}
use Rattle.std.specs.Option.{option_to_list}
use Rattle.board_defs.specs.declared.device.Cell.{Cell}
use Rattle.board_defs.specs.declared.device.RawDevice.{RawDevice}
use Rattle.board_defs.specs.declared.board.PinAt.{PinAt}
use Rattle.board_defs.specs.declared.board.NetPin.{NetPin}
use Rattle.board_defs.specs.declared.board.Net.{Net}
use Rattle.board_defs.specs.declared.board.RawBoard.{RawBoard}
use Rattle.board_defs.specs.DeviceRules.{reads_bit}
use Rattle.board_defs.specs.Pins.{device_at, entry_at, receives_where, guarded}
use Rattle.net_pins.specs.declared.nets.NetDriver.{NetDriver}
use Rattle.net_pins.specs.declared.nets.ReaderCell.{ReaderCell}
use Rattle.net_pins.specs.Positions.{first_position}

-- The lists that `f` returns for the items of a list, joined in order. `f` gets each item with its place. The first item has place `place`.
abbrev pub gathered : {X Y : Type 0} → (ℕ → X → List Y) → ℕ → List X → List Y
gathered f place [] = []
gathered f place (x ∷ xs) = f place x ++ gathered f (suc place) xs

-- the driver on the pin at `place` whose driving entry is this entry of part `part`
abbrev pub net_driver : RawBoard → ℕ → ℕ → Cell → NetDriver
net_driver board part place cell =
    record {
      place = place;
      ctl = option_map (λ control. record { part = part; cell = control.cell })
          cell.ctl;
      own = record { part = part; cell = cell.num };
      position = first_position board
          part + cell.num;
    }

-- the driver on the pin at `place`, if the pin is a driver
abbrev pub driver_of : RawBoard → ℕ → Option PinAt → Option NetDriver
driver_of board place None = None
driver_of board place (Some at) = option_map (net_driver board at.part place) (entry_at board at)

-- the drivers of a net with these pins, in pin order, whether the net is guarded or not
abbrev pub drivers_of_pins : RawBoard → List NetPin → List NetDriver
drivers_of_pins board pins = gathered (λ place pin. option_to_list (driver_of board place pin.at)) 0 pins

-- The drivers of a net, in pin order, or none if the net is guarded. Every setting enables the always-on drivers of a guarded net, but no
-- setting observes the net by them.
abbrev pub drivers_of : RawBoard → Net → List NetDriver
drivers_of board net = cond (guarded board net) [] (drivers_of_pins board net.pins)

-- the compared cell that has this entry of part `part`; `place` is the place of its pin in the net
abbrev pub reader_cell : RawBoard → ℕ → ℕ → Cell → ReaderCell
reader_cell board part place cell = record { place = place; position = first_position board part + cell.num }

-- The cells with an INPUT, CLOCK or BIDIR entry for the port bit at `at` of this device, or no cells without
-- a device. `place` is the place of the bit's pin in the net.
abbrev pub readers_in : RawBoard → ℕ → PinAt → Option RawDevice → List ReaderCell
readers_in board place at None = []
readers_in board place at (Some device) = map (reader_cell board at.part place) (filter (reads_bit at.bit) device.cells)

-- the compared cells of a pin that is a receiver, or none if it is not
abbrev pub readers_at : RawBoard → ℕ → Option PinAt → List ReaderCell
readers_at board place None = []
readers_at board place (Some at) = cond (receives_where board (Some at)) (readers_in board place at (device_at board at.part)) []

-- the compared cells of a net, in pin order
abbrev pub readers_of : RawBoard → List NetPin → List ReaderCell
readers_of board pins = gathered (λ place pin. readers_at board place pin.at) 0 pins

-- for each net, its drivers in pin order, or none if the net is guarded
abbrev pub all_drivers : RawBoard → List (List NetDriver)
all_drivers board = map (drivers_of board) board.nets

-- for each net, its compared cells in pin order
abbrev pub all_readers : RawBoard → List (List ReaderCell)
all_readers board = map (λ net. readers_of board net.pins) board.nets
