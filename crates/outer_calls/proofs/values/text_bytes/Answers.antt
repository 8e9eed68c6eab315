-- The search proves this clause without the clause of the called function, too. This answer needs that clause.
use Rattle.outer_calls.proofs.values.text_bytes.Goals as goal

pub returns-clause-short : goal.returns-clause-short
returns-clause-short c = c.into_bytes.ensures.short
