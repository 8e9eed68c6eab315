use Rattle.std.proofs.Common.{[], take, Ok}
use Rattle.std.specs.List.{flat_map}
use Rattle.bt_base.specs.declared.sink.PutFault.{PutFault}
use Rattle.line_printer.specs.Prints.{Prints}
use Rattle.device_check.specs.DeviceText.{cell_line}
use Rattle.device_check.specs.inner.ListingForms.{entries_in}
use Rattle.device_check.proofs.listing.put_table.Given as goal

-- the lines of the cells visited so far were written
abbrev pub invariant-loop-entries : goal.invariant-loop-entries
invariant-loop-entries g l =
    Prints {T = Unit {0}} {E = PutFault} (g.K.Sink.shown l.fn.out) (g.K.Sink.shown l.out) [] []
    (flat_map (λ entries. flat_map (cell_line l.ports l.bits) (entries_in entries))
    (take l.entries-index l.table)) (Ok tt)
