use Rattle.tap_defs.proofs.board.LogLemmas.{statements_compared, rows_counted}
use Rattle.tap_defs.proofs.board_law.statements_compared.Goals as goal

pub returns : goal.returns
returns c = record { statements = statements_compared; counted = rows_counted }
