-- The steps that fill the table, and the facts about pins that follow from the table.
use Rattle.std.specs.Prelude.{◌==◌, Bool, true, false, not, ◌&&◌, ◌||◌, List, [], length, map, fold, replicate, Option, Some, None}
use Rattle.std.specs.List.{list_any}
use Rattle.board_defs.specs.declared.device.Cell.{Cell}
use Rattle.board_defs.specs.declared.device.PortBit.{PortBit}
use Rattle.board_defs.specs.declared.device.RawDevice.{RawDevice}
use Rattle.board_defs.specs.declared.board.Part.{Part}
use Rattle.board_defs.specs.declared.board.PinAt.{PinAt}
use Rattle.board_defs.specs.declared.board.NetPin.{NetPin}
use Rattle.board_defs.specs.declared.board.RawBoard.{RawBoard}
use Rattle.board_defs.specs.DeviceRules.{is_driving, is_receiving, is_linkage, may_drive, may_receive}
use Rattle.board_defs.specs.Pins.{described, bit_at, is_test_pin}
use Rattle.lists.specs.Rows.{noted}
use Rattle.port_entries.specs.Entries.{entries_at}

-- A part's row of the table after the entries `cells` are added. The row has a list of entries for each port bit. An
-- entry without a port bit is left out.
abbrev pub entries_noted : List (List Cell) → List Cell → List (List Cell)
entries_noted rows cells = fold (λ done cell. noted done cell.bit cell) rows cells

abbrev pub part_rows : Option RawDevice → List (List Cell)
part_rows None = []
part_rows (Some device) = entries_noted (replicate (length device.bits) []) device.cells

abbrev pub entry_rows : List Part → List (List (List Cell))
entry_rows chain = map (λ part. part_rows (described part.kind)) chain

-- A port bit with these entries is dark. A missing port bit is dark too.
abbrev pub dark_by : Option PortBit → List Cell → Bool
dark_by None entries = true
dark_by (Some bit) entries =
    not bit.tap
    && (is_linkage bit.mode || (length entries == 0)
    || (may_drive bit.mode && not (list_any (λ cell. is_driving cell.role) entries)))

abbrev pub dark_where : List (List (List Cell)) → RawBoard → Option PinAt → Bool → Bool
dark_where rows board None inert = not inert
dark_where rows board (Some at) inert = dark_by (bit_at board at) (entries_at rows at)

-- the pin is dark, judged by the table
abbrev pub dark_in : List (List (List Cell)) → RawBoard → NetPin → Bool
dark_in rows board pin = dark_where rows board pin.at pin.inert

-- the pin guards its net, judged by the table
abbrev pub guards_in : List (List (List Cell)) → RawBoard → NetPin → Bool
guards_in rows board pin = is_test_pin board pin || dark_in rows board pin

-- A port bit with these entries is a receiver. A missing port bit is not.
abbrev pub receives_with : Option PortBit → List Cell → Bool
receives_with None entries = false
receives_with (Some bit) entries = may_receive bit.mode && list_any (λ cell. is_receiving cell.role) entries
