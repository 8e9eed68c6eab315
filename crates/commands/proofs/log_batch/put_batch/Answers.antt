use Rattle.std.proofs.Common.{◌≡◌, ◌∙◌, ℕ, List, ap, sym}
use Rattle.std.specs.Prelude.{All, IfSome, Ok, Err}
use Rattle.response_log.specs.LogRows.{HasSize}
use Rattle.batch_diag.specs.declared.block.Block.{Block}
use Rattle.batch_diag.specs.Batch.{blocks_of_text, batch_told}
use Rattle.commands.specs.LogRead.{Batch, OnBoard, judging_each, test_blocks, verdicts_text}
use Rattle.commands.specs.Worth.{DiagnosesEach}
use Rattle.commands.proofs.AnswerLemmas.{batch_wrong, of_three}
use Rattle.commands.proofs.log_batch.put_batch.Goals as goal

pub put_blocks-requires-clause-size : goal.put_blocks-requires-clause-size
put_blocks-requires-clause-size g c = λ κs within.
    of_three
    (λ (rows bits : ℕ) (blocks : List Block). All (λ block. HasSize rows bits block.log) blocks)
    c.log_rows-rows.ensures c.log_bits-bits.ensures (sym c.deref.ensures.value)
    c.in-Ok.ensures.size

pub returns-in-Err : goal.returns-in-Err
returns-in-Err g c =
    let text = c.args.text.now in
    let board = c.args.planned.now.board in
    let fails = of_three
    (λ (t : List ℕ) (rows bits : ℕ). IfSome (batch_told c.in-Err.fault)
    (λ f. blocks_of_text t rows bits ≡ Err f)) c.as_slice.ensures c.log_rows-rows.ensures
    c.log_bits-bits.ensures c.in-Err.ensures.read in
    rw c.unput_by_batch.ensures
    (batch_wrong (OnBoard judging_each text board) (λ found. verdicts_text (board, found))
    (DiagnosesEach text board) (g.K.Sink.shown c.args.out.now) c.log_rows-rows.result
    (test_blocks text board) c.in-Err.fault fails
    (λ fault wrong. record { cause = fault; fails = wrong; is = ap (λ (n : ℕ). Batch n fault) c.log_rows-rows.ensures }))

pub returns-in-Ok : goal.returns-in-Ok
returns-in-Ok g c =
    let read = of_three
    (λ (t : List ℕ) (rows bits : ℕ). blocks_of_text t rows bits ≡ Ok c.in-Ok.blocks.items)
    c.as_slice.ensures c.log_rows-rows.ensures c.log_bits-bits.ensures
    c.in-Ok.ensures.read in
    c.put_blocks.ensures c.args.text.now (read ∙ ap Ok (sym c.deref.ensures.value))
