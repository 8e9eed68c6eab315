use Rattle.promises.proofs.StatusLemmas.{tells_unread}
use Rattle.promises.proofs.promised.read_fault.Goals as goal

pub returns : goal.returns
returns g c = tells_unread _ c.run_on.ensures.run
