use Rattle.std.proofs.Common.{◌+◌, ◌++◌, refl, sym, ap, ◌∙◌, take, drop, append-nil, arith}
use Rattle.std.specs.List.{flat_map}
use Rattle.board_defs.specs.declared.device.PortBit.{PortBit}
use Rattle.line_printer.proofs.PrintLemmas.{prints_ok, prints_err, prints_none, prints_same, prints_done}
use Rattle.device_check.specs.DeviceText.{pin_text}
use Rattle.device_check.proofs.ListingLemmas.{flat-more, flat-split}
use Rattle.device_check.proofs.listing.print_each_pin.Goals as goal

pub loop-bit-init : goal.loop-bit-init
loop-bit-init g c = prints_none tt (sym (append-nil c.args.line.now))

pub returns-in_err-print_pin : goal.returns-in_err-print_pin
returns-in_err-print_pin g c =
    let bits = c.args.bits.now in
    let at = c.loop-bit.bit-index in
    let f = λ (bit : PortBit). pin_text bit.pin in
    prints_same
    (ap (λ bit. flat_map f (take at bits) ++ (f bit ++ flat_map f (drop (at + 1) bits)))
    c.bit-item.is ∙ flat-split f bits at c.bit-item.result (omega arith))
    (prints_ok c.loop-bit.invariant refl
    (prints_err (flat_map f (drop (at + 1) bits)) c.print_pin.ensures c.in_err-print_pin.was
    c.from_residual.ensures.0))

pub loop-bit-preserved : goal.loop-bit-preserved
loop-bit-preserved g c =
    let bits = c.args.bits.now in
    let at = c.loop-bit.bit-index in
    let f = λ (bit : PortBit). pin_text bit.pin in
    prints_same (ap (λ bit. flat_map f (take at bits) ++ f bit) c.bit-item.is ∙ flat-more f bits at c.bit-item.result (omega arith))
    (prints_ok c.loop-bit.invariant refl (prints_done c.print_pin.ensures c.in_ok-print_pin.was))
