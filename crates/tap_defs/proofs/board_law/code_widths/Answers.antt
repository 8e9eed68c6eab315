use Rattle.tap_defs.proofs.board.WidthLemmas.{width_is}
use Rattle.tap_defs.proofs.board_law.code_widths.Goals as goal

pub returns : goal.returns
returns c = width_is
