use Rattle.std.proofs.Common.{◌≡◌, map, take}
use Rattle.net_facts.specs.Cells.{table}
use Rattle.net_facts.proofs.cells.filled_table.Given as goal

abbrev pub invariant-loop-row : goal.invariant-loop-row
invariant-loop-row g l = table l.made.items ≡ map (λ row. map (λ before. l.item) row.items) (take l.row-index l.rows)
