use Rattle.promises.proofs.StatusLemmas.{tells_fault, tells_long}
use Rattle.promises.proofs.desk.Desk.refused.Goals as goal

pub returns-clause-fault : goal.returns-clause-fault
returns-clause-fault g c = tells_fault _ c.run.ensures.run c.run.ensures.one

pub returns-clause-long : goal.returns-clause-long
returns-clause-long g c = tells_long _ c.run.ensures.run c.run.ensures.one
