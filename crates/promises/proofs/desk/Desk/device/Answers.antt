use Rattle.promises.proofs.CommandLemmas.{lists_device}
use Rattle.promises.proofs.desk.Desk.device.Goals as goal

pub returns : goal.returns
returns g c = lists_device _ c.run.ensures.run c.run.ensures.one
