use Rattle.commands.proofs.board_walk.put_walk.Goals as goal

pub returns : goal.returns
returns g c = c.answer_by.ensures _ _ _ c.write_walk.ensures
