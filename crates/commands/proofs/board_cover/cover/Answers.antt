use Rattle.coverage_list.specs.CoverText.{cover_text}
use Rattle.commands.specs.Worth.{IsCoverText}
use Rattle.commands.proofs.AnswerLemmas.{no_board_answers, text_answers}
use Rattle.commands.proofs.board_cover.cover.Goals as goal

pub returns-in-Err : goal.returns-in-Err
returns-in-Err g c =
    no_board_answers c.args.texts.now cover_text (IsCoverText c.args.texts.now)
    (g.K.Sink.shown c.args.out.now) c.in-Err.failure c.in-Err.ensures.none

pub returns-in-Ok : goal.returns-in-Ok
returns-in-Ok g c =
    let board = c.in-Ok.board in
    let rules = c.inputs_keep_rules.ensures.board c.args.texts.now.chain c.args.texts.now.nets
    c.args.texts.now.bsdl board c.in-Ok.ensures.denoted in
    text_answers _ _ _ board c.in-Ok.ensures.denoted _ _ _ c.put_cover-put.ensures
    (record { board = board; denoted = c.in-Ok.ensures.denoted; rules = rules; lists = c.lists_are_true.ensures board rules })
