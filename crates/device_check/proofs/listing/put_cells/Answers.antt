use Rattle.line_printer.proofs.PrintLemmas.{prints_same}
use Rattle.device_check.proofs.ListingLemmas.{ordered_text}
use Rattle.device_check.proofs.listing.put_cells.Goals as goal

pub returns-then-are_in_order : goal.returns-then-are_in_order
returns-then-are_in_order g c =
    let d = c.args.device.now in
    prints_same
    (ordered_text d.ports _ d.bits _ d.cells _ d.boundary c.as_slice.ensures
    c.as_slice-then-are_in_order.ensures c.as_slice-cells.ensures
    (c.are_in_order.ensures c.if-are_in_order.true)) c.put_in_order.ensures
