-- The search proves this clause without the law, too. This answer needs the law's clause.
use Rattle.outer_calls.proofs.chain_laws.each_run_tells.Goals as goal

pub returns : goal.returns
returns c = c.each_run_tells.ensures
