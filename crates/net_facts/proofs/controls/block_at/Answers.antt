use Rattle.std.proofs.Common.{arith, sym}
use Rattle.net_facts.specs.Cells.{update_at, table}
use Rattle.net_facts.specs.inner.Rows.{unsafe_too}
use Rattle.net_facts.proofs.RowLemmas.{set_row, length_table, update_past}
use Rattle.net_facts.proofs.controls.block_at.Goals as goal

pub returns-then-c-rows : goal.returns-then-c-rows
returns-then-c-rows c =
    set_row c.args.rows.now c.args.c.part c.index-rows-c.result c.block.new.row
    (update_at c.args.c.cell unsafe_too) (omega arith) c.block.ensures

pub returns-else-c-rows : goal.returns-else-c-rows
returns-else-c-rows c =
    sym
    (update_past c.args.c.part (update_at c.args.c.cell unsafe_too) (table c.args.rows.now)
    (omega (arith, length_table c.args.rows.now)))
