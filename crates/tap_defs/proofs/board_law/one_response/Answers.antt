use Rattle.tap_defs.proofs.board.OneResponseLemmas.{one_response}
use Rattle.tap_defs.proofs.board_law.one_response.Goals as goal

pub returns : goal.returns
returns c = one_response
