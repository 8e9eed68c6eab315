use Rattle.tap_defs.proofs.board.LogLemmas.{expected_explained, expected_unexplained, own_unexplained}
use Rattle.tap_defs.proofs.board_law.expected_logs.Goals as goal

pub returns : goal.returns
returns c = record {
  passing = λ board faults scans log rules e. expected_explained board rules faults scans log e;
  unexplained = expected_unexplained;
  own_unexplained = own_unexplained;
}
