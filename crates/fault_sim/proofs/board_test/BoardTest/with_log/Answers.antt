use Rattle.std.proofs.Common.{ap}
use Rattle.fault_sim.specs.Planned.{PlannedBoard, logged_board}
use Rattle.fault_sim.proofs.board_test.BoardTest.with_log.Goals as goal

pub invariant_of-result : goal.invariant_of-result
invariant_of-result c = rw c.again.ensures c.requires

pub returns : goal.returns
returns c = ap (λ (t : PlannedBoard). logged_board t c.args.log.now) c.again.ensures
