use Rattle.std.proofs.Common.{◌≡◌}
use Rattle.net_facts.specs.Cells.{table}
use Rattle.net_facts.specs.inner.Rows.{block_parts}
use Rattle.net_facts.proofs.controls.block_all.Given as goal

abbrev pub invariant-loop-part : goal.invariant-loop-part
invariant-loop-part l = table l.rows ≡ block_parts l.board l.part (table l.initial.rows)
