use Rattle.fault_sim.proofs.PlaceLemmas.{places_are}
use Rattle.fault_sim.proofs.law.places_are_the_singles.Goals as goal

pub returns : goal.returns
returns c = places_are
