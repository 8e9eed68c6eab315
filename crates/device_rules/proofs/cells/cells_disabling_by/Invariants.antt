use Rattle.std.proofs.Common.{take}
use Rattle.device_rules.specs.Cells.{controls_entry}
use Rattle.device_rules.specs.inner.Tables.{MarksItems}
use Rattle.device_rules.proofs.cells.cells_disabling_by.Given as goal

abbrev pub invariant-loop-entry : goal.invariant-loop-entry
invariant-loop-entry l = MarksItems (controls_entry l.value) (take l.entry-index l.entries) l.boundary l.table.items
