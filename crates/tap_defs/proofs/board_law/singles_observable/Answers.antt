use Rattle.tap_defs.proofs.board.SingleLemmas.{single_observable, single_nonempty, single_no_open_shorted}
use Rattle.tap_defs.proofs.board_law.singles_observable.Goals as goal

pub returns : goal.returns
returns c = record { observable = single_observable; nonempty = single_nonempty; no_open_shorted = single_no_open_shorted }
