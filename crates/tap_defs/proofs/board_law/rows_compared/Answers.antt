use Rattle.tap_defs.specs.board.TestRows.{code_row}
use Rattle.tap_defs.proofs.board.ComparedLemmas.{passes_compare, compare_rows, code_rows_are, walk_compares}
use Rattle.tap_defs.proofs.board.SingleLogLemmas.{passes_shape}
use Rattle.tap_defs.proofs.board_law.rows_compared.Goals as goal

pub returns : goal.returns
returns c = record {
  passes = passes_compare;
  any_passes = λ board passes width rules. compare_rows board rules (code_row board passes) (code_rows_are board passes) width passes;
  shape = passes_shape;
  walk = walk_compares;
}
