use Rattle.std.proofs.Common.{subst}
use Rattle.board_defs.specs.declared.board.RawBoard.{RawBoard}
use Rattle.tap_defs.specs.board.BoardScans.{board_text}
use Rattle.tap_defs.specs.board.BoardTest.{IsBoardTest}
use Rattle.commands.specs.Answers.{IsBoardOf}
use Rattle.commands.specs.Worth.{IsSvfText}
use Rattle.commands.proofs.AnswerLemmas.{no_board_answers, text_answers}
use Rattle.commands.proofs.board_test.svf.Goals as goal

pub returns-in-Err : goal.returns-in-Err
returns-in-Err g c =
    no_board_answers c.args.texts.now board_text (IsSvfText c.args.texts.now)
    (g.K.Sink.shown c.args.out.now) c.in-Err.failure c.in-Err.ensures.none

pub returns-in-Ok : goal.returns-in-Ok
returns-in-Ok g c =
    let board = c.in-Ok.planned.board in
    text_answers (IsBoardOf c.args.texts.now) board_text (IsSvfText c.args.texts.now) board
    c.in-Ok.ensures.denoted (g.K.Sink.shown c.args.out.now)
    (g.K.Sink.shown c.put_test-put.new.out) c.put_test-put.result c.put_test-put.ensures
    (record {
      board = board;
      denoted = c.in-Ok.ensures.denoted;
      tests = subst
          (λ (b : RawBoard). IsBoardTest b (board_text b)) c.board.ensures c.tests_board.ensures;
    })
