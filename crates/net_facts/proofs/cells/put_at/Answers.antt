use Rattle.std.proofs.Common.{arith, sym}
use Rattle.net_facts.specs.Cells.{put, update_at, table}
use Rattle.net_facts.proofs.RowLemmas.{set_row, length_table, update_past}
use Rattle.net_facts.proofs.cells.put_at.Goals as goal

pub returns-then-c-rows : goal.returns-then-c-rows
returns-then-c-rows g c =
    set_row c.args.rows.now c.args.c.part c.index-rows-c.result c.put_in.new.row
    (update_at c.args.c.cell (put c.args.item)) (omega arith) c.put_in.ensures

pub returns-else-c-rows : goal.returns-else-c-rows
returns-else-c-rows g c =
    sym
    (update_past c.args.c.part (update_at c.args.c.cell (put c.args.item)) (table c.args.rows.now)
    (omega (arith, length_table c.args.rows.now)))
