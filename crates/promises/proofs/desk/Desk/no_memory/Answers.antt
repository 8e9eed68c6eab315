use Rattle.promises.proofs.StatusLemmas.{tells_memory}
use Rattle.promises.proofs.desk.Desk.no_memory.Goals as goal

pub returns : goal.returns
returns g c = tells_memory _ c.run.ensures.run
