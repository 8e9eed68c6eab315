use Rattle.diagnoser.proofs.LawLemmas.{one_diagnosis}
use Rattle.diagnoser.proofs.law.one_diagnosis.Goals as goal

pub returns : goal.returns
returns c = one_diagnosis
