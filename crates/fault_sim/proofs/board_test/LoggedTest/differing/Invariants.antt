use Rattle.fault_sim.proofs.DifferLemmas.{DifferBelow}
use Rattle.fault_sim.proofs.board_test.LoggedTest.differing.Given as goal

abbrev pub invariant-loop-n : goal.invariant-loop-n
invariant-loop-n l = DifferBelow l.self.test.board l.self.test.plan l.self.log l.n l.nets.items
