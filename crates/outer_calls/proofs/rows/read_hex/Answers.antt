-- The search proves one direction of each clause without the clause of the called function, too. These answers need both clauses whole.
use Rattle.outer_calls.proofs.rows.read_hex.Goals as goal

pub returns-clause-length : goal.returns-clause-length
returns-clause-length c = c.read_hex.ensures.length

pub returns-clause-digit : goal.returns-clause-digit
returns-clause-digit c = c.read_hex.ensures.digit
