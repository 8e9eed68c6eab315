use Rattle.std.proofs.Common.{arith}
use Rattle.device_check.proofs.ListingLemmas.{climb_next, climb_end}
use Rattle.device_check.proofs.listing.are_in_order.Goals as goal

pub loop-cell-init : goal.loop-cell-init
loop-cell-init c = λ climbs. climbs

pub loop-cell-preserved : goal.loop-cell-preserved
loop-cell-preserved c = λ climbs.
    c.loop-cell.invariant
    (climb_next c.loop-cell.least c.args.most c.args.cells.now c.loop-cell.cell-index _
    (omega arith) (omega arith) (omega arith) climbs)

pub returns : goal.returns
returns c = λ yes. c.loop-cell.invariant (climb_end c.loop-cell.least c.args.most c.args.cells.now c.loop-cell.cell-index (omega arith))
