use Rattle.diagnoser.proofs.LawLemmas.{explaining_listed}
use Rattle.diagnoser.proofs.law.explaining_listed.Goals as goal

pub returns : goal.returns
returns c board log faults rules explaining = explaining_listed c.singles_listed.ensures board log faults rules explaining
