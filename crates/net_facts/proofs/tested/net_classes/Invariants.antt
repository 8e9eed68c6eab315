use Rattle.std.proofs.Common.{◌≡◌, map, take}
use Rattle.net_facts.specs.Cells.{table}
use Rattle.net_facts.specs.inner.Answers.{class_in}
use Rattle.net_facts.proofs.tested.net_classes.Given as goal

abbrev pub invariant-loop-net : goal.invariant-loop-net
invariant-loop-net l = l.classes.items ≡ map (class_in (table l.rows)) (take l.net-index l.nets)
