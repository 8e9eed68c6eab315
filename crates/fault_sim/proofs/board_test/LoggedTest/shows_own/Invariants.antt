use Rattle.std.proofs.Common.{◌<◌, ℕ}
use Rattle.fault_sim.specs.Fits.{ShowsOwnIn}
use Rattle.fault_sim.proofs.board_test.LoggedTest.shows_own.Given as goal

abbrev pub invariant-loop-x : goal.invariant-loop-x
invariant-loop-x l = (k : ℕ) → k < l.x → ShowsOwnIn l.self.test.board l.self.test.plan l.fault l.self.log k
