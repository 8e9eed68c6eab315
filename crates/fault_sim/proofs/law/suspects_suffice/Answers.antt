use Rattle.fault_sim.proofs.OrderLemmas.{suffice}
use Rattle.fault_sim.proofs.law.suspects_suffice.Goals as goal

pub returns : goal.returns
returns c = suffice
