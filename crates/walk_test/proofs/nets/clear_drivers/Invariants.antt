use Rattle.std.proofs.Common.{◌≡◌, take}
use Rattle.walk_test.specs.inner.Tables.{cleared}
use Rattle.walk_test.proofs.nets.clear_drivers.Given as goal

abbrev pub invariant-loop-net : goal.invariant-loop-net
invariant-loop-net l = l.row.bits ≡ cleared l.fn.row.bits (take l.net-index l.cells)
