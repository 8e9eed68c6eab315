use Rattle.fault_sim.proofs.DifferLemmas.{none_decides}
use Rattle.fault_sim.proofs.differing.ComparedLog.none_differs.Goals as goal

pub returns : goal.returns
returns c =
    let logged = c.args.self.now in
    let law = rw c.logged.ensures at c.laws.ensures.expected in
    none_decides logged.test.board logged.test.plan logged.log c.nets.result.now c.nets.ensures _
    law.0 law.1 c.is_empty.result c.is_empty.ensures
