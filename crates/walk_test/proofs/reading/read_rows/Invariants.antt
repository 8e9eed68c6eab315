use Rattle.std.proofs.Common.{◌≡◌, length}
use Rattle.walk_test.specs.inner.Reading.{AreRead}
use Rattle.walk_test.proofs.reading.read_rows.Given as goal

-- The first j rows satisfy `IsRowRight`. For each compared position, `firsts` has the first of these rows in which the position reads 1, or
-- `none` if there is no such row.
abbrev pub invariant-loop-j : goal.invariant-loop-j
invariant-loop-j l = record {
  long : length l.firsts ≡ length l.fn.firsts;
  read : AreRead l.log.log l.log.mask l.log.nets l.none l.j l.firsts;
}
