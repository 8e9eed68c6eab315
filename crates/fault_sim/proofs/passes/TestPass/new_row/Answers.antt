use Rattle.std.proofs.Common.{subst}
use Rattle.board_defs.specs.declared.board.RawBoard.{RawBoard}
use Rattle.fault_sim.specs.inner.Marks.{HasScanRoom}
use Rattle.fault_sim.proofs.passes.TestPass.new_row.Goals as goal

pub fill_row-requires-clause-room : goal.fill_row-requires-clause-room
fill_row-requires-clause-room c = subst (λ (b : RawBoard). HasScanRoom b c.in_ok-row.row) c.board.ensures c.in_ok-row.ensures
