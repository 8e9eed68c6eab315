use Rattle.diagnoser.proofs.search.Search.is_ruled_out.Goals as goal

pub returns-in-Some : goal.returns-in-Some
returns-in-Some c =
    let logged = rw c.in-Some.is at c.self.invariant.telling_is in
    rw (← c.self.view_is) (rw logged at c.rules_out.ensures)
