use Rattle.std.proofs.Common.{◌≡◌, ◌++◌, map, arith, ◌∙◌, ap}
use Rattle.std.specs.Prelude.{filter}
use Rattle.std.specs.List.{range_with_len}
use Rattle.board_defs.specs.Pins.{described, cell_count}
use Rattle.net_facts.specs.Cells.{table}
use Rattle.net_facts.specs.inner.Answers.{useful_in}
use Rattle.net_facts.proofs.UsefulLemmas.{cell_in, cells_are, cell_more}
use Rattle.net_facts.proofs.useful.add_part.Goals as goal

pub loop-cell-preserved : goal.loop-cell-preserved
loop-cell-preserved c =
    cell_more (useful_in (table c.args.rows.now)) c.args.part c.loop-cell.cell
    c.args.useful.now.items c.loop-cell.useful.items _ c.is_useful.result c.loop-cell.invariant
    c.is_useful.ensures c.in_ok-push_if.ensures

pub returns : goal.returns
returns c =
    let n = c.cells_of-cell-end.ensures in
    let e : c.loop-cell.cell ≡ cell_count (described c.args.kind.now) = omega (arith, n) in
    c.loop-cell.invariant
    ∙ ap
    (λ k. c.args.useful.now.items
    ++ filter (useful_in (table c.args.rows.now))
    (map (cell_in c.args.part) (range_with_len 0 k))) e ∙
    ap (λ v. c.args.useful.now.items ++ filter (useful_in (table c.args.rows.now)) v) (cells_are c.args.part c.args.kind.now)
