use Rattle.std.proofs.Common.{Contains}
use Rattle.net_classes.proofs.closed_nets.core_of.Given as goal

abbrev pub invariant-loop-net : goal.invariant-loop-net
invariant-loop-net l = Contains l.nets l.core
