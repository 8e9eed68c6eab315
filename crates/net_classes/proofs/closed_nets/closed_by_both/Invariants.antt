use Rattle.std.proofs.Common.{◌≡◌, ◌++◌, take}
use Rattle.std.specs.List.{flat_map}
use Rattle.net_classes.specs.inner.Closed.{closed_beside}
use Rattle.net_classes.proofs.closed_nets.closed_by_both.Given as goal

abbrev pub invariant-loop-c : goal.invariant-loop-c
invariant-loop-c l = l.nets ≡ l.closed ++ flat_map (closed_beside l.known l.set l.others) (take l.c-index l.others.members.items)
