use Rattle.std.proofs.Common.{length, arith}
use Rattle.coverage_list.specs.inner.CoverForms.{pin_text_at, texts_from}
use Rattle.coverage_list.proofs.PutLemmas.{each_start, each_ok, each_err, each_end}
use Rattle.coverage_list.proofs.listing.put_net_pins.Goals as goal

pub loop-place-init : goal.loop-place-init
loop-place-init g c = each_start _ _

pub returns-in_err-put_place : goal.returns-in_err-put_place
returns-in_err-put_place g c =
    let f = pin_text_at c.args.board.now c.args.pin_use c.args.net.now in
    each_err f c.loop-place.place (length c.args.net.now.pins)
    (texts_from f 0 (length c.args.net.now.pins)) c.loop-place.invariant (omega arith)
    c.put_place.ensures c.in_err-put_place.was c.from_residual.ensures.0

pub loop-place-preserved : goal.loop-place-preserved
loop-place-preserved g c =
    let f = pin_text_at c.args.board.now c.args.pin_use c.args.net.now in
    each_ok f c.loop-place.place (length c.args.net.now.pins)
    (texts_from f 0 (length c.args.net.now.pins)) c.loop-place.invariant (omega arith)
    c.put_place.ensures c.in_ok-put_place.was

pub returns : goal.returns
returns g c =
    let f = pin_text_at c.args.board.now c.args.pin_use c.args.net.now in
    each_end f c.loop-place.place (length c.args.net.now.pins)
    (texts_from f 0 (length c.args.net.now.pins)) c.loop-place.invariant (omega arith)
