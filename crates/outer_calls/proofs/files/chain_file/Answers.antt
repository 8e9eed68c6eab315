-- The search proves this clause without the clause of the called function, too. This answer needs that clause.
use Rattle.outer_calls.proofs.files.chain_file.Goals as goal

pub returns-clause-lengths : goal.returns-clause-lengths
returns-clause-lengths c = c.chain.ensures.lengths
