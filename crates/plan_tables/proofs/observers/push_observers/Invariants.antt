use Rattle.std.proofs.Common.{◌≡◌, ◌++◌, take}
use Rattle.plan_tables.specs.inner.Building.{observers_of}
use Rattle.plan_tables.proofs.observers.push_observers.Given as goal

abbrev pub invariant-loop-driver : goal.invariant-loop-driver
invariant-loop-driver l =
    l.observers.items
    ≡ l.fn.observers.items
    ++ observers_of l.placed.board.now l.net (take l.driver-index l.drivers) l.readers
