use Rattle.std.proofs.Common.{ℕ, List, refl, subst, sym}
use Rattle.std.specs.Prelude.{All}
use Rattle.board_defs.specs.declared.board.RawBoard.{RawBoard}
use Rattle.board_defs.specs.BoardRules.{IsBoard}
use Rattle.board_defs.specs.Pins.{data_bits}
use Rattle.tap_defs.specs.board.BoardScans.{svf_row_scans}
use Rattle.response_log.specs.LogRows.{HasSize}
use Rattle.batch_diag.specs.Verdicts.{Verdict}
use Rattle.batch_diag.specs.BatchText.{batch_text}
use Rattle.commands.specs.LogRead.{OnBoard, judging_each, verdicts_text}
use Rattle.commands.specs.Worth.{DiagnosesEach, RespondOnce, TestMeans}
use Rattle.commands.specs.inner.Unput.{PutsText}
use Rattle.commands.proofs.AnswerLemmas.{text_judged}
use Rattle.commands.proofs.VerdictLemmas.{each_right}
use Rattle.commands.proofs.log_batch.put_blocks.Goals as goal

pub diagnose_blocks-requires-clause-logs : goal.diagnose_blocks-requires-clause-logs
diagnose_blocks-requires-clause-logs g c = λ κs within.
    rw c.test-test.ensures.test
    (subst
    (λ (n : ℕ). All (λ block. HasSize n (data_bits c.args.planned.now.board) block.log)
    c.args.blocks.now) (sym c.test-test.ensures.rows) c.requires.size)

pub put_verdicts-requires-clause-named : goal.put_verdicts-requires-clause-named
put_verdicts-requires-clause-named g c =
    let named = rw c.test-test.ensures.test at c.in_ok-verdicts.ensures.named in
    rw (c.board-board.ensures, c.deref.ensures.value) named

pub returns : goal.returns
returns g c =
    let board = c.args.planned.now.board in
    let blocks = c.args.blocks.now in
    let verdicts = c.in_ok-verdicts.verdicts.items in
    let judged = rw c.test-test.ensures.test at c.in_ok-verdicts.ensures.verdicts in
    let laws = c.judging_laws.ensures in
    let rules = subst (λ (b : RawBoard). IsBoard b) c.board-board.ensures laws.rules in
    let means = subst (λ (b : RawBoard). TestMeans b) c.board-board.ensures (laws.means (svf_row_scans c.board-board.result.now)) in
    let respond = subst (λ (b : RawBoard). RespondOnce b) c.board-board.ensures laws.respond in
    let right = each_right laws.listed laws.unexplained board rules blocks verdicts judged in
    let puts = subst
    (λ (b : RawBoard). PutsText (batch_text b blocks c.deref.result.now)
    (g.K.Sink.shown c.args.out.now) (g.K.Sink.shown c.put_verdicts.new.out)
    c.put_verdicts.result) c.board-board.ensures c.put_verdicts.ensures in
    let written = subst
    (λ (v : List Verdict). PutsText (batch_text board blocks v) (g.K.Sink.shown c.args.out.now)
    (g.K.Sink.shown c.put_verdicts.new.out) c.put_verdicts.result) c.deref.ensures.value puts in
    λ text read. text_judged (OnBoard judging_each text board)
    (λ found. verdicts_text (board, found)) (DiagnosesEach text board) (blocks, verdicts)
    (record { contents = blocks; holds = read; finds = (refl, judged) }) _ _ _ written
    (record {
      means = means;
      respond = respond;
      blocks = blocks;
      read = read;
      verdicts = verdicts;
      right = right;
      is = refl;
    })
