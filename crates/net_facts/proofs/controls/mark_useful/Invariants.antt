use Rattle.std.proofs.Common.{◌≡◌, take}
use Rattle.net_facts.specs.Cells.{table}
use Rattle.net_facts.specs.inner.Rows.{mark_nets}
use Rattle.net_facts.proofs.controls.mark_useful.Given as goal

abbrev pub invariant-loop-net : goal.invariant-loop-net
invariant-loop-net l = table l.rows ≡ mark_nets (table l.initial.rows) (take l.net-index l.nets)
