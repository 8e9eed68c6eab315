use Rattle.std.proofs.Common.{◌≡◌, ◌-◌, ◌≤◌, [], length, Ok}
use Rattle.bt_base.specs.declared.sink.PutFault.{PutFault}
use Rattle.line_printer.specs.Prints.{Prints}
use Rattle.device_check.specs.DeviceText.{cell_lines}
use Rattle.device_check.proofs.listing.put_blocks.Given as goal

-- The lines of the cells below `from` were written. `from` is at most the number of cells, and the table has 1,024
-- places.
abbrev pub invariant-loop-from : goal.invariant-loop-from
invariant-loop-from g l = record {
  within : l.from ≤ l.device.boundary;
  room : length l.table ≡ 1024;
  printed : Prints {T = Unit {0}} {E = PutFault} (g.K.Sink.shown l.fn.out) (g.K.Sink.shown l.out) []
      [] (cell_lines l.device.ports l.device.bits l.device.cells 0 l.from) (Ok tt);
}

abbrev pub decreases-loop-from : goal.decreases-loop-from
decreases-loop-from g l = l.device.boundary - l.from
