use Rattle.commands.proofs.ident_codes.put_test.Goals as goal

pub returns : goal.returns
returns g c = c.answer_by.ensures _ _ _ c.write_test.ensures
