use Rattle.commands.proofs.chain_test.put_test.Goals as goal

pub returns : goal.returns
returns g c = c.answer_by.ensures _ _ _ c.write_test.ensures
