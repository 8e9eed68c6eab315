use Rattle.std.proofs.Common.{drop}
use Rattle.device_check.specs.inner.ListingForms.{Climbs}
use Rattle.device_check.proofs.listing.are_in_order.Given as goal

-- If the remaining entries are in the order of their cells, with cell numbers in `least..most`, then all entries are in
-- the order of their cells, with cell numbers below `most`.
abbrev pub invariant-loop-cell : goal.invariant-loop-cell
invariant-loop-cell l = Climbs l.least l.most (drop l.cell-index l.cells) → Climbs 0 l.most l.cells
