use Rattle.std.proofs.Common.{◌<◌, length, sym, arith}
use Rattle.driver_passes.proofs.FirstLemmas.{first_found, first_later}
use Rattle.driver_passes.proofs.drivers.first_driver.Goals as goal

pub returns-in-Some-clause-first : goal.returns-in-Some-clause-first
returns-in-Some-clause-first c =
    let board = c.args.board.now in
    let less : c.loop-net.net < length board.nets = omega (arith, c.loop-net-test.true, c.net_count-net-end.ensures.value) in
    first_found board c.loop-net.net c.tested_drivers.result.now _ less
    c.tested_drivers.ensures.drivers c.loop-net.invariant (sym c.in-Some.ensures.value)

pub loop-net-preserved : goal.loop-net-preserved
loop-net-preserved c =
    let board = c.args.board.now in
    let less : c.loop-net.net < length board.nets = omega (arith, c.loop-net-test.true, c.net_count-net-end.ensures.value) in
    first_later board c.loop-net.net c.tested_drivers.result.now less
    c.tested_drivers.ensures.drivers c.loop-net.invariant (sym c.in_default.ensures.value)
