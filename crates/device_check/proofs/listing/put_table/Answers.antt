use Rattle.std.proofs.Common.{◌+◌, refl, drop, arith}
use Rattle.std.specs.List.{flat_map}
use Rattle.device_check.specs.declared.listing_table.Entries.{Entries}
use Rattle.line_printer.proofs.PrintLemmas.{prints_ok, prints_err, prints_none, prints_same, prints_done}
use Rattle.device_check.specs.DeviceText.{cell_line}
use Rattle.device_check.specs.inner.ListingForms.{entries_in}
use Rattle.device_check.proofs.ListingLemmas.{flat-more, flat-split}
use Rattle.device_check.proofs.listing.put_table.Goals as goal

pub loop-entries-init : goal.loop-entries-init
loop-entries-init g c = prints_none tt refl

pub returns-in_err-put_entries : goal.returns-in_err-put_entries
returns-in_err-put_entries g c =
    let f = λ (e : Entries). flat_map (cell_line c.args.ports.now c.args.bits.now) (entries_in e) in
    prints_same (flat-split f c.args.table.now c.loop-entries.entries-index _ (omega arith))
    (prints_ok c.loop-entries.invariant refl
    (prints_err (flat_map f (drop (c.loop-entries.entries-index + 1) c.args.table.now))
    c.put_entries.ensures c.in_err-put_entries.was c.from_residual.ensures.0))

pub loop-entries-preserved : goal.loop-entries-preserved
loop-entries-preserved g c =
    let f = λ (e : Entries). flat_map (cell_line c.args.ports.now c.args.bits.now) (entries_in e) in
    prints_same (flat-more f c.args.table.now c.loop-entries.entries-index _ (omega arith))
    (prints_ok c.loop-entries.invariant refl (prints_done c.put_entries.ensures c.in_ok-put_entries.was))
