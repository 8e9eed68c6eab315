use Rattle.line_printer.proofs.PrintLemmas.{puts_of}
use Rattle.diagnoser.specs.DiagText.{diag_text}
use Rattle.diagnoser.proofs.listing.write_diagnosis.Goals as goal

pub returns-then-pass : goal.returns-then-pass
unfolding diag_text
returns-then-pass g c = rw c.if-pass.true (puts_of c.put_pass.ensures)

pub returns-else-pass : goal.returns-else-pass
unfolding diag_text
returns-else-pass g c = rw c.if-pass.false (puts_of c.put_list.ensures)
