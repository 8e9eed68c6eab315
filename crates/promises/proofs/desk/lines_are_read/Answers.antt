use Rattle.promises.proofs.LogLemmas.{lines_read}
use Rattle.promises.proofs.desk.lines_are_read.Goals as goal

pub returns : goal.returns
returns c =
    lines_read c.rows_are_the_lines.ensures c.blocks_stand_by_themselves.ensures.logs
    c.inputs_keep_rules.ensures.board (λ board rules. (c.passes_kept.ensures board rules).kept)
    c.rows_compared.ensures.shape c.rows_compared.ensures.walk
    c.statements_compared.ensures.counted
