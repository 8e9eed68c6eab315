use Rattle.std.proofs.Common.{slice_set, arith, ◌∙◌, ap, sym}
use Rattle.net_facts.specs.inner.Rows.{with_one_driver}
use Rattle.net_facts.proofs.RowLemmas.{set_is_update, update_past, on_ok_map}
use Rattle.net_facts.proofs.controls.add_in_part.Goals as goal

pub returns-then-cell-len : goal.returns-then-cell-len
returns-then-cell-len c =
    on_ok_map c.add.result _ _
    (λ e. ap (λ x. slice_set c.args.row.now.items c.args.cell x) e
    ∙ set_is_update c.args.cell (with_one_driver c.args.net c.args.closed) c.args.row.now.items
    c.index_mut.result.now (omega arith) c.index_mut.ensures.value) c.add.ensures

pub returns-else-cell-len : goal.returns-else-cell-len
returns-else-cell-len c = sym (update_past c.args.cell (with_one_driver c.args.net c.args.closed) c.args.row.now.items (omega arith))
