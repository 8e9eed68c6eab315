use Rattle.std.proofs.Common.{◌+◌, length, arith}
use Rattle.coverage_list.specs.inner.CoverForms.{pair_at, texts_from}
use Rattle.coverage_list.proofs.PutLemmas.{each_start, some_ok, some_err, each_end}
use Rattle.coverage_list.proofs.listing.put_later.Goals as goal

pub loop-from-init : goal.loop-from-init
loop-from-init g c net e = each_start _ _

pub returns-in_err-put_word : goal.returns-in_err-put_word
returns-in_err-put_word g c net e =
    let f = pair_at c.args.board.now net in
    some_err f c.loop-from.from c.min-end.result (length c.args.board.now.nets)
    (texts_from f (c.args.low + 1) (length c.args.board.now.nets)) (c.loop-from.invariant net e)
    (omega arith) (omega arith) (c.put_word.ensures net e) c.in_err-put_word.was
    c.from_residual.ensures.0

pub loop-from-preserved : goal.loop-from-preserved
loop-from-preserved g c net e =
    let f = pair_at c.args.board.now net in
    some_ok f c.loop-from.from c.min-end.result (length c.args.board.now.nets)
    (texts_from f (c.args.low + 1) (length c.args.board.now.nets)) (c.loop-from.invariant net e)
    (omega arith) (omega arith) (c.put_word.ensures net e) c.in_ok-put_word.was

pub returns : goal.returns
returns g c net e =
    let f = pair_at c.args.board.now net in
    each_end f c.loop-from.from (length c.args.board.now.nets)
    (texts_from f (c.args.low + 1) (length c.args.board.now.nets)) (c.loop-from.invariant net e)
    (omega arith)
