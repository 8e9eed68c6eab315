use Rattle.std.proofs.Common.{◌≡◌, ℕ, ◌<◌}
use Rattle.walk_test.specs.inner.Digits.{differing}
use Rattle.walk_test.proofs.digits.MaskedRow.is_alike.Given as goal

abbrev pub invariant-loop-k : goal.invariant-loop-k
invariant-loop-k l = record {
  same : l.different ≡ 0 → (i : ℕ) → i < l.k → differing l.self.digits.now l.other l.self.mask.now i ≡ 0;
  none : ((i : ℕ) → i < l.k → differing l.self.digits.now l.other l.self.mask.now i ≡ 0) → l.different ≡ 0;
}
