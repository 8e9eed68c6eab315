use Rattle.std.proofs.Common.{◌≡◌, map, take}
use Rattle.walk_test.specs.inner.Tables.{cells_in}
use Rattle.walk_test.proofs.nets.all_cells.Given as goal

abbrev pub invariant-loop-n : goal.invariant-loop-n
invariant-loop-n l = l.all.items ≡ map (cells_in l.pins l.walk) (take l.n-index l.nets)
