use Rattle.tap_defs.proofs.board.BoardTestLemmas.{passes_harmless}
use Rattle.tap_defs.proofs.board_law.passes_harmless.Goals as goal

pub returns : goal.returns
returns c = passes_harmless
