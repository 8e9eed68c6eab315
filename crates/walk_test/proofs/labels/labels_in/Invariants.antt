use Rattle.std.proofs.Common.{◌≡◌, take, map}
use Rattle.walk_test.specs.inner.Reading.{first_in}
use Rattle.walk_test.proofs.labels.labels_in.Given as goal

abbrev pub invariant-loop-net : goal.invariant-loop-net
invariant-loop-net l = l.labels.items ≡ map (first_in l.none l.firsts) (take l.net-index l.nets)
