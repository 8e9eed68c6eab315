use Rattle.std.proofs.Common.{take}
use Rattle.device_rules.specs.Cells.{is_entry_of_control}
use Rattle.device_rules.specs.inner.Tables.{MarksItems}
use Rattle.device_rules.proofs.controls.control_cells.Given as goal

abbrev pub invariant-loop-entry : goal.invariant-loop-entry
invariant-loop-entry l = MarksItems is_entry_of_control (take l.entry-index l.entries) l.boundary l.table.items
