use Rattle.tap_defs.proofs.board.DrivingLemmas.{row_drives}
use Rattle.tap_defs.proofs.board_law.rows_drive.Goals as goal

pub returns : goal.returns
returns c = row_drives
