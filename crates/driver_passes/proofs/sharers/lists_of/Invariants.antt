use Rattle.driver_passes.specs.inner.Sharers.{AreSharersBelow}
use Rattle.driver_passes.proofs.sharers.lists_of.Given as goal

abbrev pub invariant-loop-place : goal.invariant-loop-place
invariant-loop-place l = AreSharersBelow l.board l.place l.sharers.items
