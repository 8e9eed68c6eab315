use Rattle.std.proofs.Common.{◌≡◌}
use Rattle.net_facts.specs.inner.Rows.{copies, fresh}
use Rattle.net_facts.proofs.controls.fresh_part.Given as goal

abbrev pub invariant-loop-cell : goal.invariant-loop-cell
invariant-loop-cell l = l.row.items ≡ copies fresh l._cell
