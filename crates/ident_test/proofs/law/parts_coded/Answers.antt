use Rattle.ident_test.proofs.IdentLemmas.{devices_coded}
use Rattle.ident_test.proofs.law.parts_coded.Goals as goal

pub returns : goal.returns
returns c = devices_coded
