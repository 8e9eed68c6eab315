use Rattle.fault_sim.proofs.OneWayLemmas.{suspects_are_places}
use Rattle.fault_sim.proofs.law.suspects_are_places.Goals as goal

pub returns : goal.returns
returns c = suspects_are_places
