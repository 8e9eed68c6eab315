use Rattle.std.proofs.Common.{◌≡◌, map, take}
use Rattle.plan_tables.specs.Tables.{held_cell}
use Rattle.plan_tables.proofs.held.held_cells.Given as goal

abbrev pub invariant-loop-c : goal.invariant-loop-c
invariant-loop-c l = l.cells.items ≡ map (held_cell l.placed.board.now l.quiet.bits) (take l.c-index l.c-items)
