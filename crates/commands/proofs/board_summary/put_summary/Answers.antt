use Rattle.line_printer.proofs.PrintLemmas.{prints_same, puts_of}
use Rattle.commands.proofs.board_summary.put_summary.Goals as goal

pub returns : goal.returns
returns g c = c.answer_by.ensures _ _ _ (puts_of (prints_same c.in_ok-counts.ensures c.put_counts.ensures))
