use Rattle.response_log.proofs.LawLemmas.{rows_are_lines}
use Rattle.response_log.proofs.law.rows_are_the_lines.Goals as goal

pub returns : goal.returns
returns c = rows_are_lines
