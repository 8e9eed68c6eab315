use Rattle.commands.proofs.board_cover.put_list.Goals as goal

pub returns : goal.returns
returns g c = c.answer_by.ensures _ _ _ c.write_cover.ensures
