use Rattle.promises.proofs.CommandLemmas.{diagnoses_blocks, rests_on_blocks}
use Rattle.promises.proofs.desk.Desk.batch.Goals as goal

pub returns-clause-text : goal.returns-clause-text
returns-clause-text g c = diagnoses_blocks _ c.run.ensures.run c.run.ensures.one c.lines_are_read.ensures

pub returns-clause-only : goal.returns-clause-only
returns-clause-only g c = rests_on_blocks _ c.run.ensures.run c.run.ensures.one c.lines_are_read.ensures
