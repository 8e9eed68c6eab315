use Rattle.std.proofs.Common.{◌≡◌, take}
use Rattle.net_facts.specs.Cells.{table}
use Rattle.net_facts.specs.inner.Switching.{blank_bits}
use Rattle.net_facts.proofs.switching.blank_table.Given as goal

abbrev pub invariant-loop-part : goal.invariant-loop-part
invariant-loop-part l = table l.rows.items ≡ blank_bits (take l.part-index l.chain)
