use Rattle.tap_defs.proofs.board.BoardTestLemmas.{is_test}
use Rattle.tap_defs.proofs.board_law.boards_tested.Goals as goal

pub returns : goal.returns
returns c = is_test
