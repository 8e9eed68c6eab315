use Rattle.line_printer.proofs.PrintLemmas.{prints_ok, prints_err}
use Rattle.std.proofs.Common.{[], ◌∷◌, ◌++◌}
use Rattle.std.specs.Prelude.{codes}
use Rattle.line_printer.specs.Prints.{line_of}
use Rattle.device_check.specs.DeviceText.{instruction_line, port_lines, cell_lines, device_text}
use Rattle.device_check.proofs.ListingLemmas.{few_entries}
use Rattle.device_check.proofs.listing.put_listing.Goals as goal

pub put_cells-requires-clause-few : goal.put_cells-requires-clause-few
put_cells-requires-clause-few g c = few_entries c.args.device.now c.requires.one_loading c.requires.one_writing

pub put_cells-requires-clause-most : goal.put_cells-requires-clause-most
put_cells-requires-clause-most g c = c.requires.boundary_most

pub returns-in_err-put_name : goal.returns-in_err-put_name
unfolding device_text
returns-in_err-put_name g c =
    let d = c.args.device.now in
    prints_err
    (line_of (codes "PACKAGE " ∷ d.package ∷ [])
    ++ (instruction_line d
    ++ (port_lines d.ports d.bits ++ (cell_lines d.ports d.bits d.cells 0 d.boundary))))
    c.put_name.ensures c.in_err-put_name.was c.from_residual.ensures.0

pub returns-in_err-put_name-2 : goal.returns-in_err-put_name-2
unfolding device_text
returns-in_err-put_name-2 g c =
    let d = c.args.device.now in
    prints_ok c.put_name.ensures c.in_ok-put_name.was
    (prints_err
    (instruction_line d
    ++ (port_lines d.ports d.bits ++ (cell_lines d.ports d.bits d.cells 0 d.boundary)))
    c.put_name-2.ensures c.in_err-put_name-2.was c.from_residual-in_err-put_name-2.ensures.0)

pub returns-in_err-put_instructions : goal.returns-in_err-put_instructions
unfolding device_text
returns-in_err-put_instructions g c =
    let d = c.args.device.now in
    prints_ok c.put_name.ensures c.in_ok-put_name.was
    (prints_ok c.put_name-2.ensures c.in_ok-put_name-2.was
    (prints_err
    (port_lines d.ports d.bits ++ (cell_lines d.ports d.bits d.cells 0 d.boundary))
    c.put_instructions.ensures c.in_err-put_instructions.was
    c.from_residual-in_err-put_instructions.ensures.0))

pub returns-in_err-put_all_ports : goal.returns-in_err-put_all_ports
unfolding device_text
returns-in_err-put_all_ports g c =
    let d = c.args.device.now in
    prints_ok c.put_name.ensures c.in_ok-put_name.was
    (prints_ok c.put_name-2.ensures c.in_ok-put_name-2.was
    (prints_ok c.put_instructions.ensures c.in_ok-put_instructions.was
    (prints_err (cell_lines d.ports d.bits d.cells 0 d.boundary) c.put_all_ports.ensures
    c.in_err-put_all_ports.was c.from_residual-in_err-put_all_ports.ensures.0)))

pub returns : goal.returns
unfolding device_text
returns g c =
    let d = c.args.device.now in
    prints_ok c.put_name.ensures c.in_ok-put_name.was
    (prints_ok c.put_name-2.ensures c.in_ok-put_name-2.was
    (prints_ok c.put_instructions.ensures c.in_ok-put_instructions.was
    (prints_ok c.put_all_ports.ensures c.in_ok-put_all_ports.was c.put_cells.ensures)))
