use Rattle.tap_defs.proofs.board.BoardTestLemmas.{board_tested}
use Rattle.tap_defs.proofs.board_law.board_texts_test.Goals as goal

pub returns : goal.returns
returns c = board_tested
