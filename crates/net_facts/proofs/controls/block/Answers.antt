use Rattle.std.proofs.Common.{arith, sym}
use Rattle.net_facts.specs.inner.Rows.{unsafe_too}
use Rattle.net_facts.proofs.RowLemmas.{set_is_update, update_past}
use Rattle.net_facts.proofs.controls.block.Goals as goal

pub returns-then-cell-len : goal.returns-then-cell-len
returns-then-cell-len c =
    set_is_update c.args.cell unsafe_too c.args.row.now.items c.index_mut.result.now (omega arith)
    c.index_mut.ensures.value

pub returns-else-cell-len : goal.returns-else-cell-len
returns-else-cell-len c = sym (update_past c.args.cell unsafe_too c.args.row.now.items (omega arith))
