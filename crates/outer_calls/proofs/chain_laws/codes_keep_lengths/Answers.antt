-- The search proves these clauses without the law, too. These answers need the law's clauses.
use Rattle.outer_calls.proofs.chain_laws.codes_keep_lengths.Goals as goal

pub returns-clause-instruction : goal.returns-clause-instruction
returns-clause-instruction c = c.codes_keep_lengths.ensures.instruction

pub returns-clause-boundary : goal.returns-clause-boundary
returns-clause-boundary c = c.codes_keep_lengths.ensures.boundary

pub returns-clause-code : goal.returns-clause-code
returns-clause-code c = c.codes_keep_lengths.ensures.code
