use Rattle.tap_defs.specs.board.Explaining.{set_of}
use Rattle.tap_defs.proofs.board.ResponseLogLemmas.{some_log, logs_agree}
use Rattle.tap_defs.proofs.board.SingleLemmas.{single_observable, single_no_open_shorted}
use Rattle.tap_defs.proofs.board_law.one_log.Goals as goal

pub returns : goal.returns
returns c = record {
  some = λ board faults scans rules is_set no_open turn. some_log board rules faults scans turn.follow is_set no_open turn.safe;
  one = λ board faults scans log other rules turn. logs_agree board rules faults scans turn.follow log other;
  single = λ board single scans rules is_single turn.
      some_log board rules (set_of single) scans turn.follow
      (single_observable board single is_single).is_set (single_no_open_shorted single)
      turn.safe;
}
