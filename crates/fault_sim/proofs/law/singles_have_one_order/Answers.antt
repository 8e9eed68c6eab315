use Rattle.fault_sim.proofs.OneWayLemmas.{singles_have_one_order}
use Rattle.fault_sim.proofs.law.singles_have_one_order.Goals as goal

pub returns : goal.returns
returns c = singles_have_one_order
