use Rattle.std.proofs.Common.{sym, arith}
use Rattle.batch_diag.proofs.CutLemmas.{no_wrong, wrong_found}
use Rattle.batch_diag.proofs.lines.title_fault.Goals as goal

pub overflow_cast-result : goal.overflow_cast-result
overflow_cast-result c = omega (arith, c.in-Some.ensures.place, c.args.text.short)

pub returns-in-Some : goal.returns-in-Some
returns-in-Some c = sym (wrong_found 1 c.args.text.items.now c.in-Some.found c.in-Some.ensures)

pub returns-in-None : goal.returns-in-None
returns-in-None c = sym (no_wrong 1 c.args.text.items.now c.in-None.ensures)
