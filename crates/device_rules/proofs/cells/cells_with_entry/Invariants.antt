use Rattle.std.proofs.Common.{take}
use Rattle.device_rules.specs.Cells.{is_entry_of}
use Rattle.device_rules.specs.inner.Tables.{MarksItems}
use Rattle.device_rules.proofs.cells.cells_with_entry.Given as goal

abbrev pub invariant-loop-entry : goal.invariant-loop-entry
invariant-loop-entry l = MarksItems is_entry_of (take l.entry-index l.entries) l.boundary l.table.items
