use Rattle.tap_defs.proofs.board.CodeBitLemmas.{codes_tell}
use Rattle.tap_defs.proofs.board_law.codes_tell.Goals as goal

pub returns : goal.returns
returns c = codes_tell
