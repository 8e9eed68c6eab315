use Rattle.net_classes.proofs.DriverPairs.{pairs_found}
use Rattle.net_classes.proofs.law.pairs_have_drivers.Goals as goal

pub returns : goal.returns
returns c board a b = pairs_found board a b
