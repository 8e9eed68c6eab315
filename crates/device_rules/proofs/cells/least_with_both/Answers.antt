use Rattle.std.proofs.Common.{ℕ, Bool, sym, ◌∙◌}
use Rattle.std.specs.Prelude.{◌&&◌, false, slice_index_or}
use Rattle.first_places.specs.Items.{least_below}
use Rattle.device_rules.proofs.LeastLemmas.{least_step}
use Rattle.device_rules.proofs.cells.least_with_both.Goals as goal

pub loop-cell-preserved : goal.loop-cell-preserved
loop-cell-preserved c =
    let is : ℕ → Bool = λ cell. slice_index_or c.args.on.now cell false && slice_index_or c.args.off.now cell false in
    least_step is c.loop-cell.cell c.args.boundary (least_below is c.args.boundary)
    c.loop-cell-test.true (sym c.are_set.ensures ∙ c.if-are_set.false) c.loop-cell.invariant
