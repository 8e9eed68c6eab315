use Rattle.fault_sim.proofs.DiagnosisLemmas.{explaining_picked}
use Rattle.fault_sim.proofs.law.filters_pick.Goals as goal

pub returns : goal.returns
returns c = λ board log test rules. explaining_picked board log rules test
