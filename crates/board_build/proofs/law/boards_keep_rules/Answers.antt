use Rattle.board_build.proofs.KindLemmas.{board_is}
use Rattle.board_build.proofs.law.boards_keep_rules.Goals as goal

pub returns : goal.returns
returns c = board_is
