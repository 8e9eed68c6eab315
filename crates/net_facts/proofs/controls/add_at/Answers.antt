use Rattle.std.proofs.Common.{arith, sym}
use Rattle.net_facts.specs.Cells.{update_at, table}
use Rattle.net_facts.specs.inner.Rows.{with_one_driver}
use Rattle.net_facts.proofs.RowLemmas.{set_row, length_table, update_past, on_ok_map}
use Rattle.net_facts.proofs.controls.add_at.Goals as goal

pub returns-then-c-rows : goal.returns-then-c-rows
returns-then-c-rows c =
    on_ok_map c.add_in_part.result _ _
    (λ e. set_row c.args.rows.now c.args.c.part c.index-rows-c.result c.add_in_part.new.row
    (update_at c.args.c.cell (with_one_driver c.args.net c.args.closed)) (omega arith) e)
    c.add_in_part.ensures

pub returns-else-c-rows : goal.returns-else-c-rows
returns-else-c-rows c =
    sym
    (update_past c.args.c.part (update_at c.args.c.cell (with_one_driver c.args.net c.args.closed))
    (table c.args.rows.now) (omega (arith, length_table c.args.rows.now)))
