use Rattle.btest_core.proofs.planning.plan_by.Goals as goal

pub of-requires-clause-plannable : goal.of-requires-clause-plannable
of-requires-clause-plannable c =
    (c.useful_planned.ensures c.args.board.now c.raw-rules.ensures.rules).passes
    c.in_ok-passes.passes.items c.in_ok-passes.ensures.kept.safe
    (λ x pass control at holds. ((c.terms_decided.ensures c.args.board.now c.raw-rules.ensures.rules).useful
    control).1 (c.in_ok-passes.ensures.useful x pass control at holds))
