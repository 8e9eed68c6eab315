use Rattle.std.proofs.Common.{◌≡◌, take}
use Rattle.plan_tables.specs.inner.Steady.{all_run}
use Rattle.plan_tables.proofs.uses.run_all.Given as goal

abbrev pub invariant-loop-cell : goal.invariant-loop-cell
invariant-loop-cell l = l.runs ≡ all_run l.k l.initial.runs (take l.cell-index l.held)
