-- The search proves this clause without the law, too. This answer needs the law's clause.
use Rattle.outer_calls.proofs.chain_laws.codes_keep_instructions.Goals as goal

pub returns : goal.returns
returns c = c.codes_keep_instructions.ensures
