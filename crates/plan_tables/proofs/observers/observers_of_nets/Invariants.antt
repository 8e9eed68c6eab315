use Rattle.std.proofs.Common.{◌≡◌, take}
use Rattle.plan_tables.specs.inner.Building.{observers}
use Rattle.plan_tables.proofs.observers.observers_of_nets.Given as goal

abbrev pub invariant-loop-n : goal.invariant-loop-n
invariant-loop-n l = l.observers.items ≡ observers l.placed.board.now (take l.n l.placed.board.now.nets)
