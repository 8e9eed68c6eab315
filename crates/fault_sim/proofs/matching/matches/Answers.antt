use Rattle.fault_sim.proofs.matching.matches.Goals as goal

pub of-requires-clause-log : goal.of-requires-clause-log
of-requires-clause-log c = record { rows = c.requires.rows; bits = c.requires.bits }

pub matches-requires : goal.matches-requires
matches-requires c = rw c.of.ensures c.requires.fault

pub returns : goal.returns
returns c = rw c.of.ensures at c.matches.ensures
