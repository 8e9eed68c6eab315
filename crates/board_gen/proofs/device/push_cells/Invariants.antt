use Rattle.board_gen.specs.DeviceText.{device_cell_line}
use Rattle.board_gen.proofs.EachLemmas.{Appended}
use Rattle.board_gen.proofs.device.push_cells.Given as goal

abbrev pub invariant-loop-cell : goal.invariant-loop-cell
invariant-loop-cell l = Appended l.fn.text.items l.text.items device_cell_line 0 l.cell
