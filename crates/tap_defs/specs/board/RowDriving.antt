-- The feeding of a net, which says what drives it, while a row is in the latches. It follows from the enabled
-- driver and the bit of the driver's cell.
use Rattle.std.specs.Prelude.{ℕ, ◌==◌, Bool, false, cond, ◌&&◌, Option, Some, None, slice_get}
use Rattle.board_defs.specs.declared.device.Control.{Control}
use Rattle.board_defs.specs.declared.device.Cell.{Cell}
use Rattle.board_defs.specs.declared.device.RawDevice.{RawDevice}
use Rattle.board_defs.specs.declared.board.PinAt.{PinAt}
use Rattle.board_defs.specs.declared.board.NetPin.{NetPin}
use Rattle.board_defs.specs.declared.board.Net.{Net}
use Rattle.board_defs.specs.declared.board.RawBoard.{RawBoard}
use Rattle.board_defs.specs.Pins.{device_at, entry_at, is_same}
use Rattle.tap_defs.specs.board.NetBits.{Feeding, Undriven, Driven}
use Rattle.tap_defs.specs.board.TestRows.{TestRow, first_enabled, row_bit}

-- the bit of a part's cell in a row
abbrev pub cell_bit : RawBoard → TestRow → ℕ → Option RawDevice → ℕ → Bool
cell_bit board row part None cell = false
cell_bit board row part (Some device) cell = row_bit board row part device cell

-- true if the driver's control cell is its own cell and this bit is the disable value
abbrev pub is_switched_off : Bool → Cell → Option Control → Bool
is_switched_off bit cell None = false
is_switched_off bit cell (Some control) = (control.cell == cell.num) && is_same bit control.disable

-- How the enabled driver with this entry drives its net. A driver that its own cell controls drives nothing if the
-- cell has the disable value.
abbrev pub entry_feeds : RawBoard → TestRow → PinAt → ℕ → Option Cell → Feeding
entry_feeds board row at place None = Undriven
entry_feeds board row at place (Some cell) =
    let bit : Bool = cell_bit board row at.part (device_at board at.part) cell.num in
    cond (is_switched_off bit cell cell.ctl) Undriven (Driven place bit)

-- how the enabled driver at this port bit drives its net
abbrev pub at_feeds : RawBoard → TestRow → ℕ → Option PinAt → Feeding
at_feeds board row place None = Undriven
at_feeds board row place (Some at) = entry_feeds board row at place (entry_at board at)

-- how this pin, which is the enabled driver, drives its net
abbrev pub pin_feeds : RawBoard → TestRow → ℕ → Option NetPin → Feeding
pin_feeds board row place None = Undriven
pin_feeds board row place (Some pin) = at_feeds board row place pin.at

-- how the net's enabled driver, the pin at this place, drives the net; `Undriven` if no driver is enabled
abbrev pub driver_feeds : RawBoard → TestRow → Net → Option ℕ → Feeding
driver_feeds board row net None = Undriven
driver_feeds board row net (Some place) = pin_feeds board row place (slice_get net.pins place)

-- The feeding of an unguarded net while the row is in the latches: the net's enabled driver, with its place and its
-- bit. It is `Undriven` if no driver is enabled, or if the enabled driver's own cell controls it and has the disable
-- value.
abbrev pub row_feeding : RawBoard → TestRow → Net → Feeding
row_feeding board row net = driver_feeds board row net (first_enabled board row.setting 0 net.pins)
