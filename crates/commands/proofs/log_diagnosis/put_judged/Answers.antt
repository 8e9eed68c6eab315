use Rattle.std.proofs.Common.{refl, subst}
use Rattle.board_defs.specs.declared.board.RawBoard.{RawBoard}
use Rattle.board_defs.specs.BoardRules.{IsBoard}
use Rattle.tap_defs.specs.board.BoardScans.{svf_row_scans}
use Rattle.diagnoser.specs.DiagText.{diag_text}
use Rattle.commands.specs.LogRead.{OnBoard, diagnosing, diagnosis_text}
use Rattle.commands.specs.Worth.{Diagnoses, RespondOnce, TestMeans}
use Rattle.commands.specs.inner.Unput.{PutsText}
use Rattle.commands.proofs.AnswerLemmas.{text_judged}
use Rattle.commands.proofs.VerdictLemmas.{is_right}
use Rattle.commands.proofs.log_diagnosis.put_judged.Goals as goal

pub put_verdict-requires : goal.put_verdict-requires
put_verdict-requires g c = rw c.board-board.ensures c.in_ok-verdict.ensures.named

pub returns : goal.returns
returns g c =
    let logged = c.args.logged.now in
    let board = logged.test.board in
    let rows = logged.log in
    let verdict = c.in_ok-verdict.verdict in
    let known = c.in_ok-verdict.ensures.diagnosis in
    let laws = c.judging_laws.ensures in
    let rules = subst (λ (b : RawBoard). IsBoard b) c.board-board.ensures laws.rules in
    let means = subst (λ (b : RawBoard). TestMeans b) c.board-board.ensures (laws.means (svf_row_scans c.board-board.result.now)) in
    let respond = subst (λ (b : RawBoard). RespondOnce b) c.board-board.ensures laws.respond in
    let right = is_right laws.listed laws.unexplained board rules rows verdict.pass verdict.faults known.passes known.list in
    let puts = subst
    (λ (b : RawBoard). PutsText (diag_text b verdict.pass verdict.faults)
    (g.K.Sink.shown c.args.out.now) (g.K.Sink.shown c.put_verdict.new.out) c.put_verdict.result)
    c.board-board.ensures c.put_verdict.ensures in
    λ text read. text_judged (OnBoard diagnosing text board)
    (λ found. diagnosis_text (board, found)) (Diagnoses text board)
    (verdict.pass, verdict.faults)
    (record { contents = rows; holds = read; finds = known }) _ _ _ puts
    (record {
      means = means;
      respond = respond;
      rows = rows;
      read = read;
      pass = verdict.pass;
      faults = verdict.faults;
      right = right;
      is = refl;
    })
