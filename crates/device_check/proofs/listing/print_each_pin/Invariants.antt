use Rattle.std.proofs.Common.{take, Ok}
use Rattle.std.specs.List.{flat_map}
use Rattle.bt_base.specs.declared.sink.PutFault.{PutFault}
use Rattle.line_printer.specs.Prints.{Prints}
use Rattle.device_check.specs.DeviceText.{pin_text}
use Rattle.device_check.proofs.listing.print_each_pin.Given as goal

-- the pins of the bits visited so far were printed
abbrev pub invariant-loop-bit : goal.invariant-loop-bit
invariant-loop-bit g l =
    Prints {T = Unit {0}} {E = PutFault} (g.K.Sink.shown l.fn.out) (g.K.Sink.shown l.out) l.fn.line
    l.line (flat_map (λ bit. pin_text bit.pin) (take l.bit-index l.bits)) (Ok tt)
