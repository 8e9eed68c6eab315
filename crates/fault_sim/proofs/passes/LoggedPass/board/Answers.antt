use Rattle.fault_sim.proofs.passes.LoggedPass.board.Goals as goal

pub returns : goal.returns
returns c = rw (← c.self.view_is) c.board.ensures
