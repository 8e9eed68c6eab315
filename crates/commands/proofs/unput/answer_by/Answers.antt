use Rattle.commands.proofs.AnswerLemmas.{cut_short, takes_by}
use Rattle.commands.proofs.unput.answer_by.Goals as goal

pub returns-in-Ok : goal.returns-in-Ok
returns-in-Ok c = λ text old new puts. takes_by old new text puts c.in-Ok.is

pub returns-in-Err : goal.returns-in-Err
returns-in-Err c = λ text old new puts. cut_short old new text puts c.in-Err.is
