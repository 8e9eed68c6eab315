use Rattle.promises.proofs.StatusLemmas.{tells_unwritten}
use Rattle.promises.proofs.desk.Desk.write_fault.Goals as goal

pub returns : goal.returns
returns g c = tells_unwritten _ c.run.ensures.run
