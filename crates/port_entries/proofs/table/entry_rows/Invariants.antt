use Rattle.std.proofs.Common.{◌≡◌, take}
use Rattle.port_entries.specs.inner.Rows.{entry_rows}
use Rattle.port_entries.proofs.table.entry_rows.Given as goal

abbrev pub invariant-loop-part : goal.invariant-loop-part
invariant-loop-part l = l.rows.items ≡ entry_rows (take l.part-index l.chain)
