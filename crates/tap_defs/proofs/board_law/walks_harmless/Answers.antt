use Rattle.tap_defs.proofs.board.BoardTestLemmas.{walk_harmless}
use Rattle.tap_defs.proofs.board_law.walks_harmless.Goals as goal

pub returns : goal.returns
returns c = walk_harmless
