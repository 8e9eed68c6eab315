use Rattle.std.proofs.Common.{arith, sym}
use Rattle.net_facts.specs.Cells.{update_at, table}
use Rattle.net_facts.specs.inner.Rows.{useful_too}
use Rattle.net_facts.proofs.RowLemmas.{set_row, length_table, update_past}
use Rattle.net_facts.proofs.controls.mark_at.Goals as goal

pub returns-then-c-rows : goal.returns-then-c-rows
returns-then-c-rows c =
    set_row c.args.rows.now c.args.c.part c.index-rows-c.result c.mark.new.row
    (update_at c.args.c.cell useful_too) (omega arith) c.mark.ensures

pub returns-else-c-rows : goal.returns-else-c-rows
returns-else-c-rows c =
    sym
    (update_past c.args.c.part (update_at c.args.c.cell useful_too) (table c.args.rows.now)
    (omega (arith, length_table c.args.rows.now)))
