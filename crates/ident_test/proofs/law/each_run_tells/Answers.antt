use Rattle.ident_test.proofs.IdentLemmas.{each_run_tells}
use Rattle.ident_test.proofs.law.each_run_tells.Goals as goal

pub returns : goal.returns
returns c = each_run_tells
