use Rattle.commands.specs.LogRead.{judging_each, verdicts_text}
use Rattle.commands.specs.Worth.{DiagnosesEach, OfDenoted}
use Rattle.commands.proofs.AnswerLemmas.{judged_denoted, no_board_judged}
use Rattle.commands.proofs.log_batch.batch.Goals as goal

pub returns : goal.returns
returns g c =
    let texts = c.args.texts in
    no_board_judged judging_each verdicts_text texts
    (OfDenoted (DiagnosesEach texts.log) texts.board) (g.K.Sink.shown c.args.out.now)
    c.in-Err.failure c.in-Err.ensures.none

pub returns-in-Ok : goal.returns-in-Ok
returns-in-Ok g c =
    judged_denoted judging_each verdicts_text DiagnosesEach c.args.texts c.in-Ok.planned.board
    c.in-Ok.ensures.denoted (g.K.Sink.shown c.args.out.now)
    (g.K.Sink.shown c.put_batch-put.new.out) c.put_batch-put.result c.put_batch-put.ensures
