use Rattle.promises.proofs.CommandLemmas.{tests_board}
use Rattle.promises.proofs.desk.Desk.svf.Goals as goal

pub returns : goal.returns
returns g c = tests_board _ c.run.ensures.run c.run.ensures.one
