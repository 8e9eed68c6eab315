use Rattle.std.proofs.Common.{◌≡◌}
use Rattle.net_facts.specs.Cells.{table}
use Rattle.net_facts.specs.inner.Found.{found_below}
use Rattle.net_facts.specs.inner.Answers.{enables_at_place}
use Rattle.net_facts.proofs.tested.enablers.Given as goal

abbrev pub invariant-loop-place : goal.invariant-loop-place
invariant-loop-place l = l.found ≡ found_below (enables_at_place (table l.rows) l.pins) l.place
