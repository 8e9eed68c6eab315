use Rattle.fault_sim.proofs.DiagnosisLemmas.{some_diagnosis, one_diagnosis}
use Rattle.fault_sim.proofs.law.logs_have_one_diagnosis.Goals as goal

pub returns : goal.returns
returns c = record { some = some_diagnosis; one = one_diagnosis }
