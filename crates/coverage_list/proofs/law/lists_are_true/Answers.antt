use Rattle.coverage_list.proofs.TruthLemmas.{cover_is}
use Rattle.coverage_list.proofs.law.lists_are_true.Goals as goal

pub returns : goal.returns
returns c = λ board rules. cover_is board (c.terms_decided.ensures board rules)
