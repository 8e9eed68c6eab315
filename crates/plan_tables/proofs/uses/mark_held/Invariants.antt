use Rattle.std.proofs.Common.{◌≡◌, take}
use Rattle.plan_tables.specs.inner.Steady.{marked_held}
use Rattle.plan_tables.proofs.uses.mark_held.Given as goal

abbrev pub invariant-loop-cell : goal.invariant-loop-cell
invariant-loop-cell l = l.flags ≡ marked_held l.initial.flags (take l.cell-index l.held)
