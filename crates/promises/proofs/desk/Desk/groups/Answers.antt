use Rattle.promises.proofs.CommandLemmas.{finds_groups, rests_on_walk_log}
use Rattle.promises.proofs.desk.Desk.groups.Goals as goal

pub returns-clause-text : goal.returns-clause-text
returns-clause-text g c = finds_groups _ c.run.ensures.run c.run.ensures.one c.lines_are_read.ensures

pub returns-clause-only : goal.returns-clause-only
returns-clause-only g c = rests_on_walk_log _ c.run.ensures.run c.run.ensures.one c.lines_are_read.ensures
