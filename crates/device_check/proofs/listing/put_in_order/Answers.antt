use Rattle.std.proofs.Common.{◌+◌, refl, drop, arith}
use Rattle.std.specs.List.{flat_map}
use Rattle.line_printer.proofs.PrintLemmas.{prints_ok, prints_err, prints_none, prints_same, prints_done}
use Rattle.device_check.specs.DeviceText.{cell_line}
use Rattle.device_check.proofs.ListingLemmas.{flat-more, flat-split}
use Rattle.device_check.proofs.listing.put_in_order.Goals as goal

pub loop-cell-init : goal.loop-cell-init
loop-cell-init g c = prints_none tt refl

pub returns-in_err-put_cell : goal.returns-in_err-put_cell
returns-in_err-put_cell g c =
    let f = cell_line c.args.ports.now c.args.bits.now in
    prints_same (flat-split f c.args.cells.now c.loop-cell.cell-index _ (omega arith))
    (prints_ok c.loop-cell.invariant refl
    (prints_err (flat_map f (drop (c.loop-cell.cell-index + 1) c.args.cells.now))
    c.put_cell.ensures c.in_err-put_cell.was c.from_residual.ensures.0))

pub loop-cell-preserved : goal.loop-cell-preserved
loop-cell-preserved g c =
    let f = cell_line c.args.ports.now c.args.bits.now in
    prints_same (flat-more f c.args.cells.now c.loop-cell.cell-index _ (omega arith))
    (prints_ok c.loop-cell.invariant refl (prints_done c.put_cell.ensures c.in_ok-put_cell.was))
