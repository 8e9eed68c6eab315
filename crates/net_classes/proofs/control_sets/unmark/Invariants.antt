use Rattle.std.proofs.Common.{◌≡◌, false, take}
use Rattle.net_classes.specs.inner.ControlSets.{put_all}
use Rattle.net_facts.specs.Cells.{table}
use Rattle.net_classes.proofs.control_sets.unmark.Given as goal

abbrev pub invariant-loop-c : goal.invariant-loop-c
invariant-loop-c l = table l.marks ≡ put_all false (table l.initial.marks) (take l.c-index l.members)
