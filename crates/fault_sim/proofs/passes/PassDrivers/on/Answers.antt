use Rattle.std.proofs.Common.{sym}
use Rattle.fault_sim.proofs.passes.PassDrivers.on.Goals as goal

pub returns-in-Some : goal.returns-in-Some
returns-in-Some c = rw (← c.self.view_is) (c.self.invariant c.args.net c.in-Some.driver (sym c.in-Some.ensures))

pub returns-in-None : goal.returns-in-None
returns-in-None c = rw (← c.self.view_is) c.enabled_driver.ensures
