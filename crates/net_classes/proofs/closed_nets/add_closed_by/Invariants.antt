use Rattle.std.proofs.Common.{◌≡◌, ◌++◌, take}
use Rattle.std.specs.Prelude.{filter}
use Rattle.net_classes.specs.inner.Closed.{closes_beside}
use Rattle.net_classes.specs.inner.Known.{driven_in}
use Rattle.net_classes.proofs.closed_nets.add_closed_by.Given as goal

abbrev pub invariant-loop-net : goal.invariant-loop-net
invariant-loop-net l =
    l.nets
    ≡ l.initial.nets
    ++ filter (closes_beside l.known.board l.set l.others)
    (take l.net-index (driven_in l.known l.fn.c))
