-- The search proves one direction of each clause without the clause of the called function, too. These answers need both clauses whole.
use Rattle.outer_calls.proofs.rows.read_digits.Goals as goal

pub returns-clause-length : goal.returns-clause-length
returns-clause-length c = c.read_digits.ensures.length

pub returns-clause-digit : goal.returns-clause-digit
returns-clause-digit c = c.read_digits.ensures.digit
