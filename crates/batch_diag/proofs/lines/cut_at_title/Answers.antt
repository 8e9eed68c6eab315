use Rattle.batch_diag.proofs.CutLemmas.{cut_own, cut_blocks, uncut_own, uncut_blocks}
use Rattle.batch_diag.proofs.lines.cut_at_title.Goals as goal

pub returns-in-Some-clause-own : goal.returns-in-Some-clause-own
returns-in-Some-clause-own c = cut_own c.args.number c.args.text.now c.in-Some.found c.in-Some.ensures

pub returns-in-Some-clause-rest : goal.returns-in-Some-clause-rest
returns-in-Some-clause-rest c =
    rw c.id_of.ensures (cut_blocks c.args.number c.args.text.now c.in-Some.found c.in-Some.ensures)

pub returns-in-None-clause-own : goal.returns-in-None-clause-own
returns-in-None-clause-own c = uncut_own c.args.number c.args.text.now c.in-None.ensures

pub returns-in-None-clause-rest : goal.returns-in-None-clause-rest
returns-in-None-clause-rest c = uncut_blocks c.args.number c.args.text.now c.in-None.ensures
