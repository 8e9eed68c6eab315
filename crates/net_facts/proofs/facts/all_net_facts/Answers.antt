use Rattle.std.proofs.Common.{◌++◌, ◌∷◌, [], ap, ◌∙◌}
use Rattle.net_facts.specs.declared.facts.NetFacts.{NetFacts}
use Rattle.net_facts.proofs.FactsLemmas.{facts_more}
use Rattle.net_facts.proofs.facts.all_net_facts.Goals as goal

pub loop-n-preserved : goal.loop-n-preserved
loop-n-preserved c =
    let before = c.loop-n.facts.items in
    c.in_ok-push.ensures.items
    ∙ ap (λ (facts : NetFacts). before ++ facts ∷ []) c.in_ok-net_facts.ensures
    ∙ facts_more c.args.board.now c.as_slice-nets.result.now c.loop-n.n c.index-nets-n.result
    c.is_guarded.result before (c.as_slice-nets.ensures ∙ ap (λ b. b.nets) c.raw.ensures.value)
    c.loop-n-test.true c.index-nets-n.is c.is_guarded.ensures c.loop-n.invariant
