use Rattle.std.proofs.Common.{◌≡◌, length}
use Rattle.fault_sim.specs.Kept.{AreComparedRows}
use Rattle.fault_sim.proofs.passes.TestPass.new_rows.Given as goal

abbrev pub invariant-loop-j : goal.invariant-loop-j
invariant-loop-j l = (length l.rows.items ≡ l.j) × AreComparedRows l.self.test.board l.self.test.plan l.self.number l.rows.items
