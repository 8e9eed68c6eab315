use Rattle.std.proofs.Common.{take, arith}
use Rattle.std.proofs.lemmas.List.{get_or_default}
use Rattle.net_classes.specs.inner.Closed.{drives_some}
use Rattle.net_classes.proofs.ClosedLemmas.{set_more}
use Rattle.net_classes.proofs.closed_nets.gather.Goals as goal

pub loop-net-preserved : goal.loop-net-preserved
loop-net-preserved c passes is =
    let board = c.args.known.now.board in
    set_more board c.args.nets.now c.loop-net.net-index _ c.pins.result.now c.add_pins.new.set
    (omega arith) (get_or_default c.args.nets.now c.loop-net.net-index 0 _ (omega arith))
    c.pins.ensures
    (c.in_ok-add_pins.ensures board (drives_some board (take c.loop-net.net-index c.args.nets.now)) (c.loop-net.invariant passes is))
