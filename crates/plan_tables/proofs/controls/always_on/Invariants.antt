use Rattle.std.proofs.Common.{◌≡◌, take}
use Rattle.plan_tables.specs.inner.Building.{always_on_cells}
use Rattle.plan_tables.proofs.controls.always_on.Given as goal

abbrev pub invariant-loop-observer : goal.invariant-loop-observer
invariant-loop-observer l = l.cells.items ≡ always_on_cells (take l.observer-index l.observers)
