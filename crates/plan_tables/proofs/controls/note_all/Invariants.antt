use Rattle.std.proofs.Common.{◌≡◌, take}
use Rattle.plan_tables.specs.inner.Building.{observers_noted}
use Rattle.plan_tables.proofs.controls.note_all.Given as goal

abbrev pub invariant-loop-observer : goal.invariant-loop-observer
invariant-loop-observer l = l.rows ≡ observers_noted l.initial.rows (take l.observer-index l.observers)
