use Rattle.std.proofs.Common.{◌<◌, ℕ}
use Rattle.fault_sim.specs.Fits.{Shows}
use Rattle.fault_sim.proofs.passes.LoggedPass.shows_all.Given as goal

abbrev pub invariant-loop-net : goal.invariant-loop-net
invariant-loop-net l =
    (k : ℕ) → k < l.net
    → Shows l.self.logged.test.board l.self.logged.test.plan l.fault l.self.logged.log l.self.number
    k
