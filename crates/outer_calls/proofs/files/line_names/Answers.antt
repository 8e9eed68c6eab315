-- The search proves this clause without the clause of the called function, too. This answer needs that clause.
use Rattle.outer_calls.proofs.files.line_names.Goals as goal

pub returns-clause-count : goal.returns-clause-count
returns-clause-count c = c.line_names.ensures.count
