use Rattle.std.proofs.Common.{◌∙◌}
use Rattle.diagnoser.proofs.diagnosis.diagnose_logged.Goals as goal

pub diagnose_in-requires-clause-log : goal.diagnose_in-requires-clause-log
diagnose_in-requires-clause-log g c = λ κs within. rw (c.in_ok-test.ensures ∙ c.test.ensures, c.log.ensures.value) c.log.ensures.rows

pub returns-clause-diagnosis : goal.returns-clause-diagnosis
returns-clause-diagnosis g c = rw (c.in_ok-test.ensures ∙ c.test.ensures, c.log.ensures.value) at c.diagnose_in.ensures.diagnosis

pub returns-clause-named : goal.returns-clause-named
returns-clause-named g c = rw (c.in_ok-test.ensures ∙ c.test.ensures) at c.diagnose_in.ensures.named
