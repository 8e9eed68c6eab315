use Rattle.std.proofs.Common.{◌≡◌, ℕ, ap}
use Rattle.std.specs.Prelude.{IfSome, Ok, Err}
use Rattle.response_log.specs.LogRows.{HasSize, log_rows, log_told}
use Rattle.commands.specs.LogRead.{Log, OnBoard, grouping, grouping_text, walk_log}
use Rattle.commands.specs.Worth.{IsGroupsText}
use Rattle.commands.proofs.AnswerLemmas.{log_wrong, of_two}
use Rattle.commands.proofs.log_groups.put_groups.Goals as goal

pub put_grouped-requires : goal.put_grouped-requires
put_grouped-requires g c = record {
  size = of_two (λ (rows bits : ℕ). HasSize rows bits c.in-Ok.log) c.log_rows-rows.ensures c.log_bits-bits.ensures c.in-Ok.ensures.size;
}

pub returns-in-Err : goal.returns-in-Err
returns-in-Err g c =
    let text = c.args.text in
    let board = c.args.walked.now.board in
    let fails = of_two
    (λ (rows bits : ℕ). IfSome (log_told c.in-Err.fault) (λ f. log_rows text rows bits ≡ Err f))
    c.log_rows-rows.ensures c.log_bits-bits.ensures c.in-Err.ensures.read in
    rw c.unput_by_log.ensures
    (log_wrong (OnBoard grouping text board) (λ found. grouping_text (board, found))
    (IsGroupsText text board) (g.K.Sink.shown c.args.out.now) c.log_rows-rows.result
    (walk_log text board) c.in-Err.fault fails
    (λ fault wrong. record { cause = fault; fails = wrong; is = ap (λ (n : ℕ). Log n fault) c.log_rows-rows.ensures }))

pub returns-in-Ok : goal.returns-in-Ok
returns-in-Ok g c =
    c.put_grouped.ensures c.args.text
    (of_two (λ (rows bits : ℕ). log_rows c.args.text rows bits ≡ Ok c.in-Ok.log)
    c.log_rows-rows.ensures c.log_bits-bits.ensures c.in-Ok.ensures.read)
