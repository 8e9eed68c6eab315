-- A table of the entries of each port bit of each part of a board.
use Rattle.std.specs.Prelude.{◌≡◌, ℕ, List, [], filter, Option, Some, None, option_and_then, unwrap_or, slice_get}
use Rattle.board_defs.specs.declared.device.Cell.{Cell}
use Rattle.board_defs.specs.declared.device.RawDevice.{RawDevice}
use Rattle.board_defs.specs.declared.board.PinAt.{PinAt}
use Rattle.board_defs.specs.declared.board.RawBoard.{RawBoard}
use Rattle.board_defs.specs.DeviceRules.{is_on}
use Rattle.board_defs.specs.Pins.{device_at}

-- the entries of a port bit, in the order of `cells`
abbrev pub entries_on : List Cell → ℕ → List Cell
entries_on cells bit = filter (λ cell. is_on bit cell.bit) cells

-- the entries of a port bit of a device, or none if there is no device
abbrev pub entries_of : Option RawDevice → ℕ → List Cell
entries_of None bit = []
entries_of (Some device) bit = entries_on device.cells bit

-- the entries that the table has for a port bit of a part, or none if the table has no such port bit
abbrev pub entries_at : List (List (List Cell)) → PinAt → List Cell
entries_at rows at = unwrap_or (option_and_then (λ row. slice_get row at.bit) (slice_get rows at.part)) []

-- the table has the entries of each port bit of each part
abbrev pub AreEntries : RawBoard → List (List (List Cell)) → Type 0
AreEntries board rows = (at : PinAt) → entries_at rows at ≡ entries_of (device_at board at.part) at.bit
