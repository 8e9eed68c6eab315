use Rattle.std.proofs.Common.{◌≡◌, ℕ, ◌≤◌, ◌-◌, length, get_or}
use Rattle.walk_test.specs.inner.Digits.{IsFresh, IsMarked}
use Rattle.walk_test.proofs.reading.mark_row.Given as goal

-- each compared position before `at` that reads 1 had no row and now has row `j`; all other positions are unchanged
abbrev pub invariant-loop-at : goal.invariant-loop-at
invariant-loop-at l = record {
  long : length l.firsts ≡ length l.fn.firsts;
  fresh : IsFresh l.row.digits.now l.row.mask.now l.none l.fn.firsts l.at;
  marked : IsMarked l.row.digits.now l.row.mask.now l.j l.none l.fn.firsts l.firsts l.at;
  left : (p : ℕ) → l.at ≤ p → get_or l.firsts p l.none ≡ get_or l.fn.firsts p l.none;
}

abbrev pub decreases-loop-at : goal.decreases-loop-at
decreases-loop-at l = length l.firsts - l.at
