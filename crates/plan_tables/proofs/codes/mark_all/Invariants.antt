use Rattle.std.proofs.Common.{◌≡◌, take}
use Rattle.plan_tables.specs.inner.Codes.{with_nets_marked}
use Rattle.plan_tables.proofs.codes.mark_all.Given as goal

abbrev pub invariant-loop-cell : goal.invariant-loop-cell
invariant-loop-cell l = l.flags ≡ with_nets_marked l.initial.flags (take l.cell-index l.cells)
