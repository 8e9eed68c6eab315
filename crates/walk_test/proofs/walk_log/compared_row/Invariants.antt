use Rattle.std.proofs.Common.{◌≡◌, take}
use Rattle.walk_test.specs.inner.Reading.{compared_bits}
use Rattle.walk_test.proofs.walk_log.compared_row.Given as goal

abbrev pub invariant-loop-net : goal.invariant-loop-net
invariant-loop-net l = l.row.bits ≡ compared_bits l.len (take l.net-index l.nets)
