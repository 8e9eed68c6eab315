-- The bits of the quiet row, which disables every driver that has a control. They are computed from the entries of a device in turn.
use Rattle.std.specs.Prelude.{ℕ, Bool, false, ◌&&◌, cond, List, fold, Option, Some, None, option_map, unwrap_or, replicate, slice_set}
use Rattle.board_defs.specs.declared.device.Role.{Role}
use Rattle.board_defs.specs.declared.device.Cell.{Cell}
use Rattle.board_defs.specs.declared.device.RawDevice.{RawDevice}
use Rattle.board_defs.specs.declared.board.RawBoard.{RawBoard}
use Rattle.board_defs.specs.DeviceRules.{is_driving, is_reading, is_writing, bit_of}
use Rattle.board_defs.specs.Pins.{is_pinned}
use Rattle.plan_tables.specs.declared.quiet.CellBit.{CellBit}

-- the cell and the safe value of an entry whose function is one of `roles`, with 0 for X; None for any other entry
abbrev pub safe_value_in : (Role → Bool) → Cell → Option CellBit
safe_value_in roles entry = cond (roles entry.role) (Some (record { cell = entry.num; bit = bit_of entry.safe })) None

-- the entry belongs to a driver: it is a driving entry, and its port bit has a pin
abbrev pub is_driver : RawBoard → ℕ → Cell → Bool
is_driver board part entry =
    is_driving entry.role
    && unwrap_or (option_map (λ bit. is_pinned board (record { part = part; bit = bit })) entry.bit)
    false

-- the control cell and the disable value of a driver's entry, or None if the entry does not belong to a driver or has no control
abbrev pub disable_value_in : RawBoard → ℕ → Cell → Option CellBit
disable_value_in board part entry =
    cond (is_driver board part entry)
    (option_map (λ control. record { cell = control.cell; bit = control.disable }) entry.ctl) None

-- sets the bit of the cell, or leaves the bits unchanged if no cell is given
abbrev pub set_some : List Bool → Option CellBit → List Bool
set_some bits None = bits
set_some bits (Some c) = slice_set bits c.cell c.bit

-- for each entry in turn, sets the bit that `gives` returns for the entry
abbrev pub set_by : (Cell → Option CellBit) → List Bool → List Cell → List Bool
set_by gives bits entries = fold (λ done entry. set_some done (gives entry)) bits entries

-- The bits of a device in the quiet row. The safe values of reading entries are written first. The safe values of entries that take their
-- value from the update latch overwrite them. The disable values of controls are written last.
abbrev pub quiet_values : RawBoard → ℕ → RawDevice → List Bool
quiet_values board part device =
    set_by (disable_value_in board part)
    (set_by (safe_value_in is_writing)
    (set_by (safe_value_in is_reading) (replicate device.boundary false) device.cells)
    device.cells) device.cells
