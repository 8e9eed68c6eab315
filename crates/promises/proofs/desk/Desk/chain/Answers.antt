use Rattle.promises.proofs.CommandLemmas.{tests_chain}
use Rattle.promises.proofs.desk.Desk.chain.Goals as goal

pub returns : goal.returns
returns g c = tests_chain _ c.run.ensures.run c.run.ensures.one
