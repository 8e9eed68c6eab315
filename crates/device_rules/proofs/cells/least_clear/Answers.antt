use Rattle.std.proofs.Common.{ℕ, Bool, sym, ap, ◌∙◌}
use Rattle.std.specs.Prelude.{not, false, slice_index_or}
use Rattle.first_places.specs.Items.{least_below}
use Rattle.device_rules.proofs.LeastLemmas.{least_step}
use Rattle.device_rules.proofs.cells.least_clear.Goals as goal

pub loop-cell-preserved : goal.loop-cell-preserved
loop-cell-preserved c =
    let is : ℕ → Bool = λ cell. not (slice_index_or c.args.flags.now cell false) in
    least_step is c.loop-cell.cell c.args.boundary (least_below is c.args.boundary)
    c.loop-cell-test.true (ap not (sym c.is_set.ensures ∙ c.if-not-is_set.false))
    c.loop-cell.invariant
