use Rattle.std.proofs.Common.{◌≡◌}
use Rattle.net_facts.specs.Cells.{table}
use Rattle.net_facts.specs.inner.Rows.{note_nets}
use Rattle.net_facts.proofs.controls.note_all.Given as goal

abbrev pub invariant-loop-n : goal.invariant-loop-n
invariant-loop-n l = table l.rows ≡ note_nets l.nets l.n (table l.initial.rows)
