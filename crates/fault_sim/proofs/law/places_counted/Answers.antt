use Rattle.fault_sim.proofs.OrderLemmas.{places_counted}
use Rattle.fault_sim.proofs.law.places_counted.Goals as goal

pub returns : goal.returns
returns c = places_counted
