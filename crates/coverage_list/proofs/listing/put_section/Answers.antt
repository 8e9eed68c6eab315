use Rattle.std.proofs.Common.{length, arith}
use Rattle.line_printer.proofs.PrintLemmas.{prints_same}
use Rattle.coverage_list.specs.inner.CoverForms.{section_at, section_lines}
use Rattle.coverage_list.proofs.CoverLemmas.{section_is}
use Rattle.coverage_list.proofs.PutLemmas.{each_ok, each_err, each_end}
use Rattle.coverage_list.proofs.listing.put_section.Goals as goal

pub loop-n-init : goal.loop-n-init
loop-n-init g c new r = prints_same (section_is c.args.board.now c.args.section)

pub returns-in_err-put_at : goal.returns-in_err-put_at
returns-in_err-put_at g c =
    let b = c.args.board.now in
    each_err (section_at b c.args.section) c.loop-n.n (length b.nets)
    (section_lines b c.args.section) c.loop-n.invariant (omega arith) c.put_at.ensures
    c.in_err-put_at.was c.from_residual.ensures.0

pub loop-n-preserved : goal.loop-n-preserved
loop-n-preserved g c =
    let b = c.args.board.now in
    each_ok (section_at b c.args.section) c.loop-n.n (length b.nets)
    (section_lines b c.args.section) c.loop-n.invariant (omega arith) c.put_at.ensures
    c.in_ok-put_at.was

pub returns : goal.returns
returns g c =
    let b = c.args.board.now in
    each_end (section_at b c.args.section) c.loop-n.n (length b.nets) (section_lines b c.args.section) c.loop-n.invariant (omega arith)
