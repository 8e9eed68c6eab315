use Rattle.commands.specs.LogRead.{grouping, grouping_text}
use Rattle.commands.specs.Worth.{IsGroupsText, OfDenoted}
use Rattle.commands.proofs.AnswerLemmas.{judged_denoted, no_board_judged}
use Rattle.commands.proofs.log_groups.groups.Goals as goal

pub returns-in-Err : goal.returns-in-Err
returns-in-Err g c =
    let texts = c.args.texts in
    no_board_judged grouping grouping_text texts
    (OfDenoted (IsGroupsText texts.log) texts.board) (g.K.Sink.shown c.args.out.now)
    c.in-Err.failure c.in-Err.ensures.none

pub returns-in-Ok : goal.returns-in-Ok
returns-in-Ok g c =
    judged_denoted grouping grouping_text IsGroupsText c.args.texts c.in-Ok.walked.board
    c.in-Ok.ensures.denoted (g.K.Sink.shown c.args.out.now)
    (g.K.Sink.shown c.put_groups-put.new.out) c.put_groups-put.result c.put_groups-put.ensures
