use Rattle.std.proofs.Common.{[], ◌∷◌}
use Rattle.line_printer.proofs.PrintLemmas.{prints_ok, prints_err}
use Rattle.line_printer.proofs.printing.put_line.Goals as goal

pub returns-in_err-begin_line : goal.returns-in_err-begin_line
returns-in_err-begin_line g c = prints_err (10 ∷ []) c.begin_line.ensures c.in_err-begin_line.was c.from_residual.ensures.0

pub returns : goal.returns
returns g c = prints_ok c.begin_line.ensures c.in_ok-begin_line.was c.end_line.ensures
