use Rattle.walk_test.proofs.LawLemmas.{scans_counted}
use Rattle.walk_test.proofs.law.scans_counted.Goals as goal

pub returns : goal.returns
returns c = scans_counted
