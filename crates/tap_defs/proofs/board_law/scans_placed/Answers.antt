use Rattle.tap_defs.proofs.board.ScanPlaceLemmas.{scans_placed}
use Rattle.tap_defs.proofs.board_law.scans_placed.Goals as goal

pub returns : goal.returns
returns c = scans_placed
