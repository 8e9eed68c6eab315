use Rattle.promises.proofs.CommandLemmas.{tests_idents}
use Rattle.promises.proofs.desk.Desk.ident.Goals as goal

pub returns : goal.returns
returns g c = tests_idents _ c.run.ensures.run c.run.ensures.one
