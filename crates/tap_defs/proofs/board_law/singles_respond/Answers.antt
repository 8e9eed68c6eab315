use Rattle.tap_defs.specs.board.BoardScans.{svf_row_scans}
use Rattle.tap_defs.proofs.board.ResponseLogLemmas.{own_in_turn}
use Rattle.tap_defs.proofs.board.SingleLogLemmas.{single_explains}
use Rattle.tap_defs.proofs.board_law.singles_respond.Goals as goal

pub returns : goal.returns
returns c = record {
  bits = λ board single scans log rules is_single turn. single_explains board rules single is_single scans turn log;
  own =
      λ board single log rules is_single. single_explains board rules single is_single
      (svf_row_scans board) (own_in_turn board rules) log;
}
