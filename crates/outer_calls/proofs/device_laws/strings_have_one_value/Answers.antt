-- The search proves this clause without the law, too. This answer needs the law's clause.
use Rattle.outer_calls.proofs.device_laws.strings_have_one_value.Goals as goal

pub returns-clause-pattern : goal.returns-clause-pattern
returns-clause-pattern c = c.strings_have_one_value.ensures.pattern
