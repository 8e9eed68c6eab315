use Rattle.std.proofs.Common.{◌≤◌, ◌-◌, length}
use Rattle.walk_test.specs.inner.Digits.{AreClear}
use Rattle.walk_test.proofs.digits.MaskedRow.blocks_end.Given as goal

abbrev pub invariant-loop-k : goal.invariant-loop-k
invariant-loop-k l = record {
  past : l.from ≤ l.k;
  within : l.k ≤ length l.self.digits.now;
  clear : AreClear l.self.digits.now l.self.mask.now l.from l.k;
}

abbrev pub decreases-loop-k : goal.decreases-loop-k
decreases-loop-k l = length l.self.digits.now - l.k
