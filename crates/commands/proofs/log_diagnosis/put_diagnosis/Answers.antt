use Rattle.std.proofs.Common.{◌≡◌, ℕ, ap}
use Rattle.std.specs.Prelude.{IfSome, Ok, Err}
use Rattle.response_log.specs.LogRows.{HasSize, log_rows, log_told}
use Rattle.commands.specs.LogRead.{Log, OnBoard, diagnosing, diagnosis_text, test_log}
use Rattle.commands.specs.Worth.{Diagnoses}
use Rattle.commands.proofs.AnswerLemmas.{log_wrong, of_two}
use Rattle.commands.proofs.log_diagnosis.put_diagnosis.Goals as goal

pub with_log-logged-requires : goal.with_log-logged-requires
with_log-logged-requires g c =
    of_two (λ (rows bits : ℕ). HasSize rows bits c.in-Ok.log) c.log_rows-rows.ensures c.log_bits-bits.ensures c.in-Ok.ensures.size

pub returns-in-Err : goal.returns-in-Err
returns-in-Err g c =
    let text = c.args.text in
    let board = c.args.planned.now.board in
    let fails = of_two
    (λ (rows bits : ℕ). IfSome (log_told c.in-Err.fault) (λ f. log_rows text rows bits ≡ Err f))
    c.log_rows-rows.ensures c.log_bits-bits.ensures c.in-Err.ensures.read in
    rw c.unput_by_log.ensures
    (log_wrong (OnBoard diagnosing text board) (λ found. diagnosis_text (board, found))
    (Diagnoses text board) (g.K.Sink.shown c.args.out.now) c.log_rows-rows.result
    (test_log text board) c.in-Err.fault fails
    (λ fault wrong. record { cause = fault; fails = wrong; is = ap (λ (n : ℕ). Log n fault) c.log_rows-rows.ensures }))

pub returns-in-Ok : goal.returns-in-Ok
returns-in-Ok g c =
    (rw c.with_log-logged.ensures at c.put_judged.ensures) c.args.text
    (of_two (λ (rows bits : ℕ). log_rows c.args.text rows bits ≡ Ok c.in-Ok.log)
    c.log_rows-rows.ensures c.log_bits-bits.ensures c.in-Ok.ensures.read)
