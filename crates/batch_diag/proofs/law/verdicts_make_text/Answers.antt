use Rattle.batch_diag.proofs.TextLemmas.{verdicts_make_text}
use Rattle.batch_diag.proofs.law.verdicts_make_text.Goals as goal

pub returns : goal.returns
returns c = verdicts_make_text
