use Rattle.fault_sim.proofs.universe.Universe.candidate.Goals as goal

pub returns : goal.returns
returns c plan = rw c.lists.ensures at c.place_at.ensures plan
