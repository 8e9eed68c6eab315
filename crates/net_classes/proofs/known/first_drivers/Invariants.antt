use Rattle.std.proofs.Common.{◌≡◌, map, take}
use Rattle.std.specs.Prelude.{slice_get}
use Rattle.net_classes.proofs.known.first_drivers.Given as goal

abbrev pub invariant-loop-net : goal.invariant-loop-net
invariant-loop-net l = l.firsts.items ≡ map (λ net. slice_get net.drivers 0) (take l.net-index l.nets)
