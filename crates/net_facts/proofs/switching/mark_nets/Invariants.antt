use Rattle.std.proofs.Common.{◌≡◌, take, fold}
use Rattle.net_facts.specs.Cells.{table}
use Rattle.net_facts.specs.inner.Switching.{mark_pulled}
use Rattle.net_facts.proofs.switching.mark_nets.Given as goal

abbrev pub invariant-loop-net : goal.invariant-loop-net
invariant-loop-net l = table l.rows ≡ fold (mark_pulled l.value) (table l.initial.rows) (take l.net-index l.nets)
