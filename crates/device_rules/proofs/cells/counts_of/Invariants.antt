use Rattle.std.proofs.Common.{take}
use Rattle.device_rules.specs.inner.Stages.{is_for_cell}
use Rattle.device_rules.specs.inner.Tables.{Counts}
use Rattle.device_rules.proofs.cells.counts_of.Given as goal

abbrev pub invariant-loop-entry : goal.invariant-loop-entry
invariant-loop-entry l = Counts (is_for_cell l.stage) (take l.entry-index l.entries) l.boundary l.table.items
