use Rattle.std.proofs.Common.{map, ◌∙◌, ap, arith, sym}
use Rattle.std.proofs.lemmas.List.{take_all}
use Rattle.lists.proofs.ListLemmas.{map-map}
use Rattle.net_facts.proofs.RowLemmas.{table_more}
use Rattle.net_facts.proofs.cells.filled_table.Goals as goal

pub loop-row-preserved : goal.loop-row-preserved
loop-row-preserved g c =
    table_more (λ row. map (λ before. c.args.item) row.items) c.args.rows.now c.loop-row.row-index
    c.row-item.result c.loop-row.made.items c.push.new.self.items c.in_ok-filled_row.field-0
    (omega arith) c.row-item.is c.loop-row.invariant
    (c.in_ok-filled_row.ensures ∙ ap (map (λ before. c.args.item)) c.deref.ensures.value) c.in_ok-push.ensures.items

pub returns : goal.returns
returns g c =
    c.loop-row.invariant
    ∙ ap (map (λ row. map (λ before. c.args.item) row.items))
    (take_all c.loop-row.row-index c.args.rows.now c.loop-row-test.false) ∙
    sym (map-map (λ row. row.items) (map (λ before. c.args.item)) c.args.rows.now)
