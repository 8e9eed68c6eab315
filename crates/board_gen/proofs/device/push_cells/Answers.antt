use Rattle.std.proofs.Common.{arith}
use Rattle.board_gen.specs.DeviceText.{device_cell_line}
use Rattle.board_gen.proofs.EachLemmas.{appended_more}
use Rattle.board_gen.proofs.device.push_cells.Goals as goal

pub loop-cell-preserved : goal.loop-cell-preserved
loop-cell-preserved c =
    appended_more c.args.text.now.items _ _ device_cell_line 0 c.loop-cell.cell (omega arith)
    c.loop-cell.invariant c.in_ok-push_cell_line.ensures
