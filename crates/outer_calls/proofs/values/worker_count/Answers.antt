-- The search proves these clauses without the clauses of the called function, too. These answers need those clauses.
use Rattle.outer_calls.proofs.values.worker_count.Goals as goal

pub returns-clause-some : goal.returns-clause-some
returns-clause-some c = c.number.ensures.some

pub returns-clause-few : goal.returns-clause-few
returns-clause-few c = c.number.ensures.few
