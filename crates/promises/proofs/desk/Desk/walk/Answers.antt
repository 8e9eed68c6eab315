use Rattle.promises.proofs.CommandLemmas.{walks_board}
use Rattle.promises.proofs.desk.Desk.walk.Goals as goal

pub returns : goal.returns
returns g c = walks_board _ c.run.ensures.run c.run.ensures.one
