use Rattle.promises.proofs.CommandLemmas.{sums_up}
use Rattle.promises.proofs.promised.make.Goals as goal

pub returns : goal.returns
returns g c = sums_up _ c.run_on.ensures.run c.run_on.ensures.one
