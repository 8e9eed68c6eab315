use Rattle.std.proofs.Common.{◌≡◌, ◌++◌, replicate}
use Rattle.plan_tables.proofs.instructions.push_same.Given as goal

abbrev pub invariant-loop : goal.invariant-loop
invariant-loop l = l.bits.items ≡ l.fn.bits.items ++ replicate l.counter l.bit
