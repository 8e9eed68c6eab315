use Rattle.batch_diag.proofs.LawLemmas.{blocks_are_the_lines}
use Rattle.batch_diag.proofs.law.blocks_are_the_lines.Goals as goal

pub returns : goal.returns
returns c = blocks_are_the_lines
