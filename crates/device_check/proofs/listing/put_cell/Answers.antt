use Rattle.line_printer.proofs.PrintLemmas.{prints_ok, prints_err, prints_same}
use Rattle.std.proofs.Common.{[], ◌∷◌, ◌++◌}
use Rattle.std.specs.Prelude.{codes, decimal}
use Rattle.line_printer.specs.Prints.{whole}
use Rattle.device_check.specs.DeviceText.{place_text, symbol_word, role_word, control_text}
use Rattle.device_check.proofs.ListingLemmas.{cell_pieces}
use Rattle.device_check.proofs.listing.put_cell.Goals as goal

pub returns-in_err-begin_cell : goal.returns-in_err-begin_cell
returns-in_err-begin_cell g c =
    let e = c.args.cell in
    let place = place_text c.args.ports.now c.args.bits.now e.bit in
    prints_same
    (cell_pieces (codes "CELL ") (decimal e.num) (codes " ") (role_word e.role) (codes " ")
    place (codes " ") (symbol_word e.safe) (control_text e.ctl))
    (prints_err
    (place
    ++ (whole (codes " " ∷ symbol_word e.safe ∷ []) ++ (control_text e.ctl ++ (10 ∷ []))))
    c.begin_cell.ensures c.in_err-begin_cell.was c.from_residual.ensures.0)

pub returns-in_err-print_place : goal.returns-in_err-print_place
returns-in_err-print_place g c =
    let e = c.args.cell in
    let place = place_text c.args.ports.now c.args.bits.now e.bit in
    prints_same
    (cell_pieces (codes "CELL ") (decimal e.num) (codes " ") (role_word e.role) (codes " ")
    place (codes " ") (symbol_word e.safe) (control_text e.ctl))
    (prints_ok c.begin_cell.ensures c.in_ok-begin_cell.was
    (prints_err
    (whole (codes " " ∷ symbol_word e.safe ∷ []) ++ (control_text e.ctl ++ (10 ∷ [])))
    c.print_place.ensures c.in_err-print_place.was
    c.from_residual-in_err-print_place.ensures.0))

pub returns-in_err-print_safe : goal.returns-in_err-print_safe
returns-in_err-print_safe g c =
    let e = c.args.cell in
    let place = place_text c.args.ports.now c.args.bits.now e.bit in
    prints_same
    (cell_pieces (codes "CELL ") (decimal e.num) (codes " ") (role_word e.role) (codes " ")
    place (codes " ") (symbol_word e.safe) (control_text e.ctl))
    (prints_ok c.begin_cell.ensures c.in_ok-begin_cell.was
    (prints_ok c.print_place.ensures c.in_ok-print_place.was
    (prints_err (control_text e.ctl ++ (10 ∷ [])) c.print_safe.ensures
    c.in_err-print_safe.was c.from_residual-in_err-print_safe.ensures.0)))

pub returns-in_err-print_control : goal.returns-in_err-print_control
returns-in_err-print_control g c =
    let e = c.args.cell in
    let place = place_text c.args.ports.now c.args.bits.now e.bit in
    prints_same
    (cell_pieces (codes "CELL ") (decimal e.num) (codes " ") (role_word e.role) (codes " ")
    place (codes " ") (symbol_word e.safe) (control_text e.ctl))
    (prints_ok c.begin_cell.ensures c.in_ok-begin_cell.was
    (prints_ok c.print_place.ensures c.in_ok-print_place.was
    (prints_ok c.print_safe.ensures c.in_ok-print_safe.was
    (prints_err (10 ∷ []) c.print_control.ensures c.in_err-print_control.was
    c.from_residual-in_err-print_control.ensures.0))))

pub returns : goal.returns
returns g c =
    let e = c.args.cell in
    let place = place_text c.args.ports.now c.args.bits.now e.bit in
    prints_same
    (cell_pieces (codes "CELL ") (decimal e.num) (codes " ") (role_word e.role) (codes " ")
    place (codes " ") (symbol_word e.safe) (control_text e.ctl))
    (prints_ok c.begin_cell.ensures c.in_ok-begin_cell.was
    (prints_ok c.print_place.ensures c.in_ok-print_place.was
    (prints_ok c.print_safe.ensures c.in_ok-print_safe.was
    (prints_ok c.print_control.ensures c.in_ok-print_control.was c.end_line.ensures))))
