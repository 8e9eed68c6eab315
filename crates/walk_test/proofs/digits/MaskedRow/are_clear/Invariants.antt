use Rattle.std.proofs.Common.{◌≡◌}
use Rattle.walk_test.specs.inner.Digits.{AreClear}
use Rattle.walk_test.proofs.digits.MaskedRow.are_clear.Given as goal

abbrev pub invariant-loop-k : goal.invariant-loop-k
invariant-loop-k l = l.ones ≡ 0 → AreClear l.self.digits.now l.self.mask.now l.from l.k
