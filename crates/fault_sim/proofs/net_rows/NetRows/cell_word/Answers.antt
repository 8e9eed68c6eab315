use Rattle.std.proofs.Common.{◌+◌, ◌==◌, ◌&&◌, ◌||◌, Bool, ap, sym, ◌∙◌}
use Rattle.response_log.specs.LogRows.{bit_in}
use Rattle.fault_sim.proofs.ShownLemmas.{bit_is, row_more}
use Rattle.fault_sim.proofs.net_rows.NetRows.cell_word.Goals as goal

pub loop-j-preserved : goal.loop-j-preserved
loop-j-preserved c i less =
    let log = c.self.inside.log.now in
    let first = c.self.inside.first in
    let at = c.args.at in
    let j = c.loop-j.j in
    c.with_row-word.ensures i less
    ∙ ap (λ (b : Bool). b || ((i == j) && c.bit.result)) (c.loop-j.invariant i less)
    ∙ row_more (λ k. bit_in log (first + k) at) i j c.bit.result
    (ap (λ k. bit_in log (first + k) at) (sym c.from.ensures) ∙ bit_is log (first + c.from.result) at c.bit.result c.bit.ensures)
