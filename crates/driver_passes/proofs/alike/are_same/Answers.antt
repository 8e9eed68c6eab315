use Rattle.driver_passes.proofs.AlikeLemmas.{drives_same}
use Rattle.driver_passes.proofs.alike.are_same.Goals as goal

pub returns : goal.returns
returns c = drives_same c.args.drivers.now c.args.others.now c.eq.result c.eq.ensures
