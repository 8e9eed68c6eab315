use Rattle.ident_test.proofs.IdentLemmas.{codes_assigned}
use Rattle.ident_test.proofs.law.codes_assigned.Goals as goal

pub returns : goal.returns
returns c = codes_assigned
