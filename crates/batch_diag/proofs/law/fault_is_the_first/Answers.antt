use Rattle.batch_diag.proofs.LawLemmas.{fault_is_the_first}
use Rattle.batch_diag.proofs.law.fault_is_the_first.Goals as goal

pub returns : goal.returns
returns c = fault_is_the_first
