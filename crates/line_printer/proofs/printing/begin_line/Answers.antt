use Rattle.line_printer.proofs.PrintLemmas.{prints_from}
use Rattle.line_printer.proofs.printing.begin_line.Goals as goal

pub returns : goal.returns
returns g c = prints_from c.clear.ensures c.print_all.ensures
