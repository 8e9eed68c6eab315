use Rattle.line_printer.proofs.PrintLemmas.{prints_ok, prints_err, prints_same}
use Rattle.std.proofs.Common.{[], ◌∷◌, ◌++◌}
use Rattle.std.specs.Prelude.{codes}
use Rattle.device_check.specs.DeviceText.{pins_text, mode_word}
use Rattle.device_check.proofs.ListingLemmas.{port_pieces}
use Rattle.device_check.proofs.listing.put_port_line.Goals as goal

pub returns-in_err-begin_port : goal.returns-in_err-begin_port
returns-in_err-begin_port g c =
    prints_same
    (port_pieces (codes "PORT ") c.args.name.now (codes " ") (mode_word c.args.mode)
    (pins_text c.args.bits.now))
    (prints_err (mode_word c.args.mode ++ (pins_text c.args.bits.now ++ (10 ∷ [])))
    c.begin_port.ensures c.in_err-begin_port.was c.from_residual.ensures.0)

pub returns-in_err-print_mode : goal.returns-in_err-print_mode
returns-in_err-print_mode g c =
    prints_same
    (port_pieces (codes "PORT ") c.args.name.now (codes " ") (mode_word c.args.mode)
    (pins_text c.args.bits.now))
    (prints_ok c.begin_port.ensures c.in_ok-begin_port.was
    (prints_err (pins_text c.args.bits.now ++ (10 ∷ [])) c.print_mode.ensures
    c.in_err-print_mode.was c.from_residual-in_err-print_mode.ensures.0))

pub returns-in_err-print_pins : goal.returns-in_err-print_pins
returns-in_err-print_pins g c =
    prints_same
    (port_pieces (codes "PORT ") c.args.name.now (codes " ") (mode_word c.args.mode)
    (pins_text c.args.bits.now))
    (prints_ok c.begin_port.ensures c.in_ok-begin_port.was
    (prints_ok c.print_mode.ensures c.in_ok-print_mode.was
    (prints_err (10 ∷ []) c.print_pins.ensures c.in_err-print_pins.was
    c.from_residual-in_err-print_pins.ensures.0)))

pub returns : goal.returns
returns g c =
    prints_same
    (port_pieces (codes "PORT ") c.args.name.now (codes " ") (mode_word c.args.mode)
    (pins_text c.args.bits.now))
    (prints_ok c.begin_port.ensures c.in_ok-begin_port.was
    (prints_ok c.print_mode.ensures c.in_ok-print_mode.was
    (prints_ok c.print_pins.ensures c.in_ok-print_pins.was c.end_line.ensures)))
