-- The search proves this clause without the clause of the called function, too. This answer needs that clause.
use Rattle.outer_calls.proofs.plans.quiet_row.Goals as goal

pub returns-clause-shifted : goal.returns-clause-shifted
returns-clause-shifted c = c.quiet_row.ensures.shifted
