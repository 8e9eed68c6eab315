use Rattle.std.proofs.Common.{[], ◌∷◌}
use Rattle.board_gen.specs.DeviceText.{bsdl_text}
use Rattle.board_gen.specs.BoardTexts.{chain_file_text, net_text}
use Rattle.btest_core.specs.BoardRead.{IsBoardRead}
use Rattle.commands.specs.Answers.{Nothing}
use Rattle.commands.specs.Summary.{summary_text}
use Rattle.commands.proofs.AnswerLemmas.{answers_fault, text_answers}
use Rattle.commands.proofs.board_summary.summary.Goals as goal

pub returns-in-Err : goal.returns-in-Err
returns-in-Err g c =
    rw c.unput_by.ensures
    (answers_fault
    (IsBoardRead (chain_file_text c.args.number) (net_text c.args.number) (bsdl_text ∷ []))
    summary_text Nothing (g.K.Sink.shown c.args.out.now) c.in-Err.fault c.in-Err.ensures)

pub returns-in-Ok : goal.returns-in-Ok
returns-in-Ok g c = text_answers _ _ _ c.in-Ok.board c.in-Ok.ensures _ _ _ c.put_summary-put.ensures tt
