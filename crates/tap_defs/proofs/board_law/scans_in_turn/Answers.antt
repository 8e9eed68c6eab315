use Rattle.tap_defs.proofs.board.ResponseLogLemmas.{passes_in_turn, own_in_turn, walk_in_turn}
use Rattle.tap_defs.proofs.board_law.scans_in_turn.Goals as goal

pub returns : goal.returns
returns c = record { passes = passes_in_turn; own = own_in_turn; walk = walk_in_turn }
