use Rattle.std.proofs.Common.{◌≡◌, take}
use Rattle.plan_tables.specs.inner.Steady.{moving}
use Rattle.plan_tables.proofs.uses.moving.Given as goal

abbrev pub invariant-loop-observer : goal.invariant-loop-observer
invariant-loop-observer l = l.others.items ≡ moving l.uses l.passes (take l.observer-index l.observers)
