use Rattle.commands.specs.LogRead.{diagnosing, diagnosis_text}
use Rattle.commands.specs.Worth.{Diagnoses, OfDenoted}
use Rattle.commands.proofs.AnswerLemmas.{judged_denoted, no_board_judged}
use Rattle.commands.proofs.log_diagnosis.diagnosis.Goals as goal

pub returns-in-Err : goal.returns-in-Err
returns-in-Err g c =
    let texts = c.args.texts in
    no_board_judged diagnosing diagnosis_text texts
    (OfDenoted (Diagnoses texts.log) texts.board) (g.K.Sink.shown c.args.out.now)
    c.in-Err.failure c.in-Err.ensures.none

pub returns-in-Ok : goal.returns-in-Ok
returns-in-Ok g c =
    judged_denoted diagnosing diagnosis_text Diagnoses c.args.texts c.in-Ok.planned.board
    c.in-Ok.ensures.denoted (g.K.Sink.shown c.args.out.now)
    (g.K.Sink.shown c.put_diagnosis-put.new.out) c.put_diagnosis-put.result
    c.put_diagnosis-put.ensures
