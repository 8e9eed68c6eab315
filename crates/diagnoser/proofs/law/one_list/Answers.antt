use Rattle.diagnoser.proofs.LawLemmas.{one_list}
use Rattle.diagnoser.proofs.law.one_list.Goals as goal

pub returns : goal.returns
returns c = one_list
