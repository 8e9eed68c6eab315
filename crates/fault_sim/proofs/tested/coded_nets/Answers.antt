use Rattle.std.proofs.Common.{◌++◌, ◌∷◌, [], ℕ, List, cond, ap, sym, ◌∙◌}
use Rattle.std.specs.Prelude.{nat_lt}
use Rattle.lists.proofs.ListLemmas.{filter_below_more}
use Rattle.fault_sim.specs.Effects.{code_in}
use Rattle.fault_sim.specs.inner.Tested.{coded_nets}
use Rattle.fault_sim.proofs.tested.coded_nets.Goals as goal

pub loop-n-preserved : goal.loop-n-preserved
loop-n-preserved c =
    let plan = c.args.plan.now in
    let n = c.loop-n.n in
    c.in_ok-push_if.ensures
    ∙ ap (λ (l : List ℕ). l ++ cond (nat_lt 0 c.code.result) (n ∷ []) []) c.loop-n.invariant
    ∙ ap (λ (k : ℕ). coded_nets plan n ++ cond (nat_lt 0 k) (n ∷ []) []) c.code.ensures
    ∙ sym (filter_below_more (λ m. nat_lt 0 (code_in plan m)) n)
