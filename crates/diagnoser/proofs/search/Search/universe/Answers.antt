use Rattle.diagnoser.proofs.search.Search.universe.Goals as goal

pub returns : goal.returns
returns c = rw (← c.self.view_is) c.self.invariant.universe_is
