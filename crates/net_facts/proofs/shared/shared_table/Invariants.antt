use Rattle.std.proofs.Common.{◌≡◌, take, map}
use Rattle.net_facts.specs.Cells.{table}
use Rattle.net_facts.specs.inner.Shared.{shared_in}
use Rattle.net_facts.proofs.shared.shared_table.Given as goal

abbrev pub invariant-loop-row : goal.invariant-loop-row
invariant-loop-row l = table l.shared.items ≡ map (λ row. map (shared_in l.flags) row.items) (take l.row-index l.rows)
