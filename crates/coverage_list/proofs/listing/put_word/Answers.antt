use Rattle.std.proofs.Common.{sym, refl, arith}
use Rattle.line_printer.proofs.PrintLemmas.{prints_none, prints_same}
use Rattle.coverage_list.proofs.NetLemmas.{empty_word}
use Rattle.coverage_list.specs.inner.CoverForms.{pair_at, texts_from}
use Rattle.coverage_list.proofs.PutLemmas.{each_start, each_ok, each_err, each_end}
use Rattle.coverage_list.proofs.listing.put_word.Goals as goal

pub returns-then-unpaired-eq0 : goal.returns-then-unpaired-eq0
returns-then-unpaired-eq0 g c net at =
    prints_same
    (sym
    (empty_word c.args.board.now c.args.low c.args.from c.args.end
    c.unpaired_word-unpaired.result net c.unpaired_word-unpaired.ensures
    c.if-unpaired-eq0.true c.requires.word at)) (prints_none tt refl)

pub loop-high-init : goal.loop-high-init
loop-high-init g c net e = each_start _ _

pub returns-in_err-put_pair_at : goal.returns-in_err-put_pair_at
returns-in_err-put_pair_at g c net e =
    let f = pair_at c.args.board.now net in
    each_err f c.loop-high.high c.args.end (texts_from f c.args.from c.args.end)
    (c.loop-high.invariant net e) (omega arith) (c.put_pair_at.ensures net e)
    c.in_err-put_pair_at.was c.from_residual.ensures.0

pub loop-high-preserved : goal.loop-high-preserved
loop-high-preserved g c net e =
    let f = pair_at c.args.board.now net in
    each_ok f c.loop-high.high c.args.end (texts_from f c.args.from c.args.end)
    (c.loop-high.invariant net e) (omega arith) (c.put_pair_at.ensures net e)
    c.in_ok-put_pair_at.was

pub returns : goal.returns
returns g c net e =
    let f = pair_at c.args.board.now net in
    each_end f c.loop-high.high c.args.end (texts_from f c.args.from c.args.end) (c.loop-high.invariant net e) (omega arith)
