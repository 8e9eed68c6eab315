-- The search proves this clause without the law, too. This answer needs the law's clause.
use Rattle.outer_calls.proofs.log_laws.singles_observable.Goals as goal

pub returns-clause-no_open_shorted : goal.returns-clause-no_open_shorted
returns-clause-no_open_shorted c = c.singles_observable.ensures.no_open_shorted
