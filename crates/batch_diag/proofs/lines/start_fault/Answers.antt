use Rattle.std.proofs.Common.{◌∙◌, sym, arith}
use Rattle.batch_diag.proofs.CutLemmas.{no_start, start_found}
use Rattle.batch_diag.proofs.lines.start_fault.Goals as goal

pub overflow_cast-found : goal.overflow_cast-found
overflow_cast-found c = omega (arith, c.in-Some.ensures.place, c.args.text.short)

pub returns-in-Some : goal.returns-in-Some
returns-in-Some c = c.no_title.ensures ∙ sym (start_found 1 c.args.text.items.now c.in-Some.found c.in-Some.ensures)

pub returns-in-None : goal.returns-in-None
returns-in-None c = sym (no_start 1 c.args.text.items.now c.in-None.ensures)
