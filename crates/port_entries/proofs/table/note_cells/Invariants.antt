use Rattle.std.proofs.Common.{◌≡◌, take}
use Rattle.port_entries.specs.inner.Rows.{entries_noted}
use Rattle.port_entries.proofs.table.note_cells.Given as goal

abbrev pub invariant-loop-cell : goal.invariant-loop-cell
invariant-loop-cell l = l.row ≡ entries_noted l.initial.row (take l.cell-index l.cells)
