use Rattle.promises.proofs.CommandLemmas.{lists_cover}
use Rattle.promises.proofs.desk.Desk.cover.Goals as goal

pub returns : goal.returns
returns g c = lists_cover _ c.run.ensures.run c.run.ensures.one
