use Rattle.tap_defs.proofs.board.ResponseLogLemmas.{explained_by_rows}
use Rattle.tap_defs.proofs.board_law.logs_by_rows.Goals as goal

pub returns : goal.returns
returns c = λ board faults scans log rules turn. explained_by_rows board rules faults scans turn.follow log
