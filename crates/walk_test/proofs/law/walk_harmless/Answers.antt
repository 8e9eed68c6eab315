use Rattle.walk_test.proofs.LawLemmas.{walk_harmless}
use Rattle.walk_test.proofs.law.walk_harmless.Goals as goal

pub returns : goal.returns
returns c = walk_harmless c.walk_safe.ensures c.walks_harmless.ensures c.passes_harmless.ensures
