use Rattle.std.proofs.Common.{◌≡◌, ◌++◌, map, take}
use Rattle.std.specs.Prelude.{filter}
use Rattle.board_defs.specs.DeviceRules.{is_receiving}
use Rattle.net_pins.specs.NetCells.{reader_cell}
use Rattle.net_pins.proofs.nets.push_readers.Given as goal

abbrev pub invariant-loop-cell : goal.invariant-loop-cell
invariant-loop-cell l =
    l.readers.items
    ≡ l.fn.readers.items
    ++ map (reader_cell l.board l.part l.place)
    (filter (λ cell. is_receiving cell.role) (take l.cell-index l.entries))
