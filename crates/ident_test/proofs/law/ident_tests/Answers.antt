use Rattle.ident_test.proofs.IdentLemmas.{ident_test}
use Rattle.ident_test.proofs.law.ident_tests.Goals as goal

pub returns : goal.returns
returns c = ident_test
