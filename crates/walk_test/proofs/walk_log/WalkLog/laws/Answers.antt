use Rattle.std.proofs.Common.{subst}
use Rattle.walk_test.specs.inner.Reading.{AreLoggedNets, LoggedNets}
use Rattle.walk_test.proofs.walk_log.WalkLog.laws.Goals as goal

pub returns : goal.returns
returns c = subst (λ (it : LoggedNets). AreLoggedNets it) c.self.view_is c.self.invariant
