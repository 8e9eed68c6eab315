use Rattle.std.specs.List.{flat_map}
use Rattle.line_printer.proofs.PrintLemmas.{prints_ok, prints_err}
use Rattle.diagnoser.specs.DiagText.{fault_line}
use Rattle.diagnoser.proofs.listing.put_list.Goals as goal

pub returns-in_err-put_fail : goal.returns-in_err-put_fail
returns-in_err-put_fail g c =
    prints_err (flat_map (fault_line c.args.board.now) c.args.faults.now) c.put_fail.ensures
    c.in_err-put_fail.was c.from_residual.ensures.0

pub returns : goal.returns
returns g c = prints_ok c.put_fail.ensures c.in_ok-put_fail.was c.put_faults.ensures
