use Rattle.std.proofs.Common.{◌∙◌, drop, sym}
use Rattle.fault_sim.proofs.TestedLemmas.{passes_kept}
use Rattle.fault_sim.proofs.tested.mark_passes.Goals as goal

pub returns-then-are_set : goal.returns-then-are_set
returns-then-are_set c =
    sym
    (passes_kept c.args.plan.now c.args.net
    (drop c.loop-pass.pass-index c.args.plan.now.passes) _ (sym c.if-are_set.ensures))
    ∙ c.loop-pass.invariant
