use Rattle.std.proofs.Common.{subst}
use Rattle.board_defs.specs.declared.board.RawBoard.{RawBoard}
use Rattle.tap_defs.specs.board.BoardTest.{IsHarmless}
use Rattle.walk_test.specs.WalkTest.{board_walk_text}
use Rattle.commands.specs.Answers.{IsBoardOf}
use Rattle.commands.specs.Worth.{IsWalkText}
use Rattle.commands.proofs.AnswerLemmas.{no_board_answers, text_answers}
use Rattle.commands.proofs.board_walk.walk.Goals as goal

pub returns-in-Err : goal.returns-in-Err
returns-in-Err g c =
    no_board_answers c.args.texts.now board_walk_text (IsWalkText c.args.texts.now)
    (g.K.Sink.shown c.args.out.now) c.in-Err.failure c.in-Err.ensures.none

pub returns-in-Ok : goal.returns-in-Ok
returns-in-Ok g c =
    let board = c.in-Ok.walked.board in
    text_answers (IsBoardOf c.args.texts.now) board_walk_text (IsWalkText c.args.texts.now) board
    c.in-Ok.ensures.denoted (g.K.Sink.shown c.args.out.now)
    (g.K.Sink.shown c.put_walk-put.new.out) c.put_walk-put.result c.put_walk-put.ensures
    (record {
      board = board;
      denoted = c.in-Ok.ensures.denoted;
      harmless = subst
          (λ (b : RawBoard). IsHarmless b (board_walk_text b)) c.board.ensures
          c.is_harmless.ensures;
    })
