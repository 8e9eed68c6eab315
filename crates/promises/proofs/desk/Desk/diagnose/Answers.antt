use Rattle.promises.proofs.CommandLemmas.{diagnoses_log, rests_on_log}
use Rattle.promises.proofs.desk.Desk.diagnose.Goals as goal

pub returns-clause-text : goal.returns-clause-text
returns-clause-text g c = diagnoses_log _ c.run.ensures.run c.run.ensures.one c.lines_are_read.ensures

pub returns-clause-only : goal.returns-clause-only
returns-clause-only g c = rests_on_log _ c.run.ensures.run c.run.ensures.one c.lines_are_read.ensures
