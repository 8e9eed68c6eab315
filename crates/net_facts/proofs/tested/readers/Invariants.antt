use Rattle.std.proofs.Common.{◌≡◌}
use Rattle.net_facts.specs.inner.Found.{found_below}
use Rattle.net_facts.specs.inner.Answers.{reads_at}
use Rattle.net_facts.proofs.tested.readers.Given as goal

abbrev pub invariant-loop-place : goal.invariant-loop-place
invariant-loop-place l = l.found ≡ found_below (reads_at l.pins) l.place
