use Rattle.std.proofs.Common.{◌≤◌, length, drop, Ok}
use Rattle.bt_base.specs.declared.sink.PutFault.{PutFault}
use Rattle.line_printer.specs.Prints.{Prints}
use Rattle.device_check.specs.DeviceText.{code_text}
use Rattle.device_check.proofs.listing.print_code.Given as goal

-- the symbols from place `at` to the end of the code were printed, the last symbol first
abbrev pub invariant-loop-at : goal.invariant-loop-at
invariant-loop-at g l = record {
  within : l.at ≤ length l.code;
  printed : Prints {T = Unit {0}} {E = PutFault} (g.K.Sink.shown l.fn.out) (g.K.Sink.shown l.out)
      l.fn.line l.line (code_text (drop l.at l.code)) (Ok tt);
}

abbrev pub decreases-loop-at : goal.decreases-loop-at
decreases-loop-at g l = l.at
