use Rattle.std.proofs.Common.{◌≡◌}
use Rattle.net_facts.specs.Cells.{table}
use Rattle.net_facts.specs.inner.Rows.{block_bits}
use Rattle.net_facts.proofs.controls.block_part.Given as goal

abbrev pub invariant-loop-bit : goal.invariant-loop-bit
invariant-loop-bit l = table l.rows ≡ block_bits l.board l.part l.bit (table l.initial.rows)
