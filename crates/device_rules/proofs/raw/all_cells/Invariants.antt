use Rattle.std.proofs.Common.{◌≡◌, map, take}
use Rattle.device_rules.specs.Raw.{cell_of}
use Rattle.device_rules.proofs.raw.all_cells.Given as goal

abbrev pub invariant-loop-entry : goal.invariant-loop-entry
invariant-loop-entry l = l.cells.items ≡ map (cell_of l.ports) (take l.entry-index l.entries)
