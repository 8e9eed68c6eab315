use Rattle.std.proofs.Common.{◌≡◌, take}
use Rattle.net_classes.specs.inner.Closed.{closed_in}
use Rattle.net_classes.proofs.closed_nets.all_closed.Given as goal

abbrev pub invariant-loop-c : goal.invariant-loop-c
invariant-loop-c l = l.nets ≡ closed_in l.known l.set (take l.c-index l.set.members.items)
