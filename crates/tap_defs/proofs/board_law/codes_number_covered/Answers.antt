use Rattle.tap_defs.proofs.board.PlanLemmas.{observed_covered}
use Rattle.tap_defs.proofs.board_law.codes_number_covered.Goals as goal

pub returns : goal.returns
returns c = observed_covered
