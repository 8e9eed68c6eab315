use Rattle.std.proofs.Common.{List, subst}
use Rattle.board_defs.specs.declared.fault.Single.{Single}
use Rattle.diagnoser.specs.DiagText.{diag_text}
use Rattle.commands.specs.inner.Unput.{PutsText}
use Rattle.commands.proofs.log_diagnosis.put_verdict.Goals as goal

pub returns : goal.returns
returns g c =
    subst
    (λ (faults : List Single). PutsText
    (diag_text c.args.board.now c.args.verdict.now.pass faults)
    (g.K.Sink.shown c.args.out.now) (g.K.Sink.shown c.write_diagnosis-put.new.out)
    c.answer_by.result) c.as_slice.ensures
    (c.answer_by.ensures _ _ _ c.write_diagnosis-put.ensures)
