use Rattle.device_check.proofs.OneAnswer.{one_answer}
use Rattle.device_check.proofs.SomeAnswer.{some_answer}
use Rattle.device_check.proofs.law.entities_have_one_answer.Goals as goal

pub returns-clause-some : goal.returns-clause-some
returns-clause-some c = some_answer

pub returns-clause-one : goal.returns-clause-one
returns-clause-one c = one_answer
