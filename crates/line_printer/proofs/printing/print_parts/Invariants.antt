use Rattle.std.proofs.Common.{◌-◌, ◌≤◌, length, take, Ok}
use Rattle.bt_base.specs.declared.sink.PutFault.{PutFault}
use Rattle.line_printer.specs.Prints.{Prints}
use Rattle.line_printer.proofs.printing.print_parts.Given as goal

-- The first `at` bytes of the text were printed.
abbrev pub invariant-loop-at : goal.invariant-loop-at
invariant-loop-at g l = record {
  within : l.at ≤ length l.text;
  printed : Prints {T = Unit {0}} {E = PutFault} (g.K.Sink.shown l.fn.out) (g.K.Sink.shown l.out)
      l.fn.line l.line (take l.at l.text) (Ok tt);
}

abbrev pub decreases-loop-at : goal.decreases-loop-at
decreases-loop-at g l = length l.text - l.at
