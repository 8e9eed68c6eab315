use Rattle.outer_tests.proofs.scans.new_plan.Goals as goal

pub new-requires-clause-plannable : goal.new-requires-clause-plannable
new-requires-clause-plannable c =
    (c.useful_planned.ensures c.args.board.now c.raw-rules.ensures.rules).passes
    c.in_ok-passes.passes.items c.in_ok-passes.ensures.kept.safe
    (λ x pass control at holds. ((c.terms_decided.ensures c.args.board.now c.raw-rules.ensures.rules).useful
    control).1 (c.in_ok-passes.ensures.useful x pass control at holds))
