use Rattle.ident_test.proofs.IdentLemmas.{codes_keep_instructions}
use Rattle.ident_test.proofs.law.codes_keep_instructions.Goals as goal

pub returns : goal.returns
returns c = codes_keep_instructions
