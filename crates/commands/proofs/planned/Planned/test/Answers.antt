use Rattle.commands.proofs.TestLemmas.{rows_are}
use Rattle.commands.proofs.planned.Planned.test.Goals as goal

pub returns : goal.returns
returns c =
    rw (← c.self.view_is)
    (record { test = c.of.ensures; rows = rows_are c.self.inside.board c.self.inside.plan c.self.invariant.plan c.self.invariant.passes })
