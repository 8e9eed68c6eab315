use Rattle.tap_defs.proofs.board.CaptureLemmas.{log_captured}
use Rattle.tap_defs.proofs.board_law.logs_captured.Goals as goal

pub returns : goal.returns
returns c = λ board faults scans log rules. log_captured board rules faults scans log
