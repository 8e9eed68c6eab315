use Rattle.std.proofs.Common.{◌≡◌}
use Rattle.walk_test.specs.inner.Tables.{nets_in}
use Rattle.walk_test.proofs.nets.nets_in.Given as goal

abbrev pub invariant-loop-n : goal.invariant-loop-n
invariant-loop-n l = l.nets.items ≡ nets_in l.pins l.walk l.n
