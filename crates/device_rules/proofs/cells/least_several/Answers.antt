use Rattle.std.proofs.Common.{ℕ, Bool, sym, ap, ◌∙◌}
use Rattle.std.specs.Prelude.{◌||◌, nat_lt, slice_index}
use Rattle.first_places.specs.Items.{least_below}
use Rattle.device_rules.proofs.LeastLemmas.{least_step}
use Rattle.device_rules.proofs.cells.least_several.Goals as goal

pub loop-cell-preserved : goal.loop-cell-preserved
loop-cell-preserved c =
    let is : ℕ → Bool = λ cell. nat_lt 1 (slice_index c.args.loaders.now cell) || nat_lt 1 (slice_index c.args.writers.now cell) in
    least_step is c.loop-cell.cell c.args.boundary (least_below is c.args.boundary) c.loop-cell-test.true
    (ap (λ b. b || nat_lt 1 (slice_index c.args.writers.now c.loop-cell.cell))
    (sym c.is_several.ensures ∙ c.if-is_several.false)
    ∙ sym c.is_several-else-is_several.ensures ∙ c.if-is_several-2.false) c.loop-cell.invariant
