use Rattle.std.proofs.Common.{◌∙◌}
use Rattle.fault_sim.proofs.suspects.Suspects.new.Goals as goal

pub of-requires-clause-log : goal.of-requires-clause-log
of-requires-clause-log c = record { rows = c.requires.rows; bits = c.requires.bits }

pub suspects-requires : goal.suspects-requires
suspects-requires c = rw (c.in_ok-compared.ensures ∙ c.of.ensures) c.requires.universe

pub returns : goal.returns
returns c = rw (c.in_ok-compared.ensures ∙ c.of.ensures) at c.suspects.ensures
