use Rattle.response_log.proofs.OffenseLemmas.{first_offense_is_told, one_offense_or_log}
use Rattle.response_log.proofs.law.fault_is_the_first_offense.Goals as goal

pub returns-clause-told : goal.returns-clause-told
returns-clause-told c = first_offense_is_told

pub returns-clause-one : goal.returns-clause-one
returns-clause-one c = one_offense_or_log
