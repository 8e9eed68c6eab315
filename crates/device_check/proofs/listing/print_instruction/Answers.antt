use Rattle.line_printer.proofs.PrintLemmas.{prints_ok, prints_err}
use Rattle.device_check.specs.DeviceText.{code_text}
use Rattle.device_check.proofs.listing.print_instruction.Goals as goal

pub returns-in_err-print : goal.returns-in_err-print
returns-in_err-print g c =
    prints_err (code_text c.args.code.now) c.print.ensures c.in_err-print.was c.from_residual.ensures.0

pub returns : goal.returns
returns g c =
    prints_ok c.print.ensures c.in_ok-print.was c.print_code.ensures
