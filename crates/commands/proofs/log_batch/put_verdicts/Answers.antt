use Rattle.commands.proofs.log_batch.put_verdicts.Goals as goal

pub returns : goal.returns
returns g c = c.answer_by.ensures _ _ _ c.write_batch.ensures
