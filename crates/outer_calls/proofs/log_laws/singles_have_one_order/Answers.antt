-- The search proves this clause without the law, too. This answer needs the law's clause.
use Rattle.outer_calls.proofs.log_laws.singles_have_one_order.Goals as goal

pub returns : goal.returns
returns c = c.singles_have_one_order.ensures
