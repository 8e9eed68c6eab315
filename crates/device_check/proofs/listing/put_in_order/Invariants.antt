use Rattle.std.proofs.Common.{[], take, Ok}
use Rattle.std.specs.List.{flat_map}
use Rattle.bt_base.specs.declared.sink.PutFault.{PutFault}
use Rattle.line_printer.specs.Prints.{Prints}
use Rattle.device_check.specs.DeviceText.{cell_line}
use Rattle.device_check.proofs.listing.put_in_order.Given as goal

-- the lines of the entries visited so far were written
abbrev pub invariant-loop-cell : goal.invariant-loop-cell
invariant-loop-cell g l =
    Prints {T = Unit {0}} {E = PutFault} (g.K.Sink.shown l.fn.out) (g.K.Sink.shown l.out) [] []
    (flat_map (cell_line l.ports l.bits) (take l.cell-index l.cells)) (Ok tt)
