use Rattle.std.proofs.Common.{length}
use Rattle.line_printer.proofs.PrintLemmas.{prints_same}
use Rattle.device_check.proofs.ListingLemmas.{table_text}
use Rattle.device_check.proofs.listing.put_block.Goals as goal

pub returns-clause-text : goal.returns-clause-text
returns-clause-text g c =
    let d = c.args.device.now in
    prints_same
    (table_text d.ports _ d.bits _ d.cells _ c.args.from (length c.args.table.now) _
    c.as_slice-2.ensures c.as_slice-3.ensures c.as_slice.ensures
    c.fill_entries.ensures)
    c.put_table.ensures
