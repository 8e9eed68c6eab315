use Rattle.std.proofs.Common.{arith}
use Rattle.driver_passes.proofs.TestedLemmas.{noted_next}
use Rattle.driver_passes.proofs.tested.list_drivers.Goals as goal

pub loop-d-preserved : goal.loop-d-preserved
loop-d-preserved c =
    noted_next c.args.board.now c.args.drivers.now c.loop-d.d-index c.args.net c.args.lists.now
    c.loop-d.lists c.list_driver.new.lists (omega arith) c.loop-d.invariant
    c.in_ok-list_driver.ensures
