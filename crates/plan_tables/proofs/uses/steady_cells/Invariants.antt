use Rattle.std.proofs.Common.{◌≡◌, take}
use Rattle.plan_tables.specs.inner.Steady.{steady_cells}
use Rattle.plan_tables.proofs.uses.steady_cells.Given as goal

abbrev pub invariant-loop-observer : goal.invariant-loop-observer
invariant-loop-observer l = l.cells.items ≡ steady_cells l.uses l.passes (take l.observer-index l.observers)
