use Rattle.std.proofs.Common.{◌≡◌, ◌∙◌, ◌&&◌, [], false, get_or, ap, sym, arith}
use Rattle.fault_sim.specs.Planned.{PlanPass}
use Rattle.fault_sim.specs.inner.Tested.{observes_in}
use Rattle.fault_sim.proofs.KeptLemmas.{paired_at, never_paired}
use Rattle.fault_sim.proofs.PassLemmas.{passes_more}
use Rattle.fault_sim.proofs.tested.paired_in.Goals as goal

pub returns-then-observes_both : goal.returns-then-observes_both
returns-then-observes_both c =
    sym (paired_at c.args.plan.now c.args.a c.args.b c.loop-x.x (omega (arith, c.loop-x-test.true, c.pass_count-x-end.ensures))
    (sym
    (c.if-observes_both.ensures ∙ ap
    (λ (p : PlanPass). observes_in p.plan p.pass c.args.a && observes_in p.plan p.pass c.args.b)
    c.of-pass.ensures)))

pub loop-x-preserved : goal.loop-x-preserved
loop-x-preserved c =
    let plan = c.args.plan.now in
    passes_more
    (λ k. (observes_in plan (get_or plan.passes k []) c.args.a
    && observes_in plan (get_or plan.passes k []) c.args.b) ≡ false) c.loop-x.x
    c.loop-x.invariant
    (sym
    (c.if-observes_both.ensures
    ∙ ap
    (λ (p : PlanPass). observes_in p.plan p.pass c.args.a
    && observes_in p.plan p.pass c.args.b) c.of-pass.ensures))

pub returns : goal.returns
returns c =
    sym
    (never_paired c.args.plan.now c.args.a c.args.b
    (λ k less. c.loop-x.invariant k
    (omega (arith, less, c.loop-x-test.false, c.pass_count-x-end.ensures))))
