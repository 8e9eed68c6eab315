use Rattle.fault_sim.proofs.universe.Universe.new.Goals as goal

pub returns : goal.returns
returns c = rw c.of.ensures at c.of-2.ensures
