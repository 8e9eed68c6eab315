use Rattle.batch_diag.proofs.TextLemmas.{one_batch_text}
use Rattle.batch_diag.proofs.law.one_batch_text.Goals as goal

pub returns : goal.returns
returns c = one_batch_text c.one_diagnosis.ensures
