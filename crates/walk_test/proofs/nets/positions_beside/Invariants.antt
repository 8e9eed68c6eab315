use Rattle.std.proofs.Common.{◌≡◌, take}
use Rattle.walk_test.specs.inner.Tables.{positions_beside}
use Rattle.walk_test.proofs.nets.positions_beside.Given as goal

abbrev pub invariant-loop-reader : goal.invariant-loop-reader
invariant-loop-reader l = l.positions.items ≡ positions_beside l.place (take l.reader-index l.readers)
