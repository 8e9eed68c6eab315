use Rattle.std.proofs.Common.{◌∙◌, ap}
use Rattle.fault_sim.specs.Planned.{PlannedBoard}
use Rattle.fault_sim.proofs.passes.TestPass.board.Goals as goal

pub returns : goal.returns
returns c = rw (← c.self.view_is) (c.board.ensures ∙ ap (λ (t : PlannedBoard). t.board) c.test.ensures)
