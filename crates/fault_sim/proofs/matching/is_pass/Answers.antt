use Rattle.fault_sim.proofs.matching.is_pass.Goals as goal

pub of-requires-clause-log : goal.of-requires-clause-log
of-requires-clause-log c = record { rows = c.requires.rows; bits = c.requires.bits }

pub returns : goal.returns
returns c = rw c.of.ensures at c.is_pass.ensures
