use Rattle.std.proofs.Common.{◌≡◌, ◌++◌, zip}
use Rattle.btest_core.proofs.devices.zipped.Given as goal

-- The pairs made so far, followed by the pairs of the remaining items, are the pairs of all items.
abbrev pub invariant-loop-number : goal.invariant-loop-number
invariant-loop-number l = zip l.numbers l.packages ≡ l.list.items ++ zip l.number-iterator.a.rest.now l.number-iterator.b.rest.now
