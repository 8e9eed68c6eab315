use Rattle.promises.proofs.StatusLemmas.{tells_usage}
use Rattle.promises.proofs.desk.Desk.usage.Goals as goal

pub returns : goal.returns
returns g c = tells_usage _ c.run.ensures.run
