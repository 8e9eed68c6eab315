use Rattle.std.proofs.Common.{refl}
use Rattle.promises.proofs.StatusLemmas.{finds_outcome, rests_on_files}
use Rattle.promises.proofs.desk.Desk.outcome.Goals as goal

pub returns-clause-only : goal.returns-clause-only
returns-clause-only g c = rests_on_files _ c.run.ensures.run (_, refl)

pub returns-clause-some : goal.returns-clause-some
returns-clause-some g c = finds_outcome _ c.run.ensures.run (_, refl) c.run.ensures.one
