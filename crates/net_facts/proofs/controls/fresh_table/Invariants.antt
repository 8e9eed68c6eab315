use Rattle.std.proofs.Common.{◌≡◌, take}
use Rattle.net_facts.specs.Cells.{table}
use Rattle.net_facts.specs.inner.Rows.{fresh_rows}
use Rattle.net_facts.proofs.controls.fresh_table.Given as goal

abbrev pub invariant-loop-part : goal.invariant-loop-part
invariant-loop-part l = table l.rows.items ≡ fresh_rows (take l.part-index l.chain)
