use Rattle.std.proofs.Common.{refl, ap}
use Rattle.line_printer.proofs.PrintLemmas.{prints_ok, prints_err, prints_put, prints_same}
use Rattle.diagnoser.specs.DiagText.{diag_text}
use Rattle.batch_diag.specs.BatchText.{title_line}
use Rattle.batch_diag.proofs.listing.put_block.Goals as goal

pub returns-in_err-put_title : goal.returns-in_err-put_title
returns-in_err-put_title g c =
    prints_err (diag_text c.args.board.now c.args.verdict.now.pass c.args.verdict.now.faults)
    (prints_same (ap title_line c.bytes.ensures) c.put_title.ensures) c.in_err-put_title.was
    c.from_residual.ensures.0

pub returns : goal.returns
returns g c =
    prints_ok (prints_same (ap title_line c.bytes.ensures) c.put_title.ensures) c.in_ok-put_title.was
    (prints_same
    (ap (λ faults. diag_text c.args.board.now c.args.verdict.now.pass faults)
    c.as_slice.ensures) (prints_put c.write_diagnosis.ensures refl refl))
