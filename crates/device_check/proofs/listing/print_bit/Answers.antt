use Rattle.line_printer.proofs.PrintLemmas.{prints_ok, prints_err}
use Rattle.device_check.specs.DeviceText.{index_text}
use Rattle.device_check.proofs.listing.print_bit.Goals as goal

pub returns-in_err-print_port_name : goal.returns-in_err-print_port_name
returns-in_err-print_port_name g c =
    prints_err (index_text c.args.bit.now.index) c.print_port_name.ensures c.in_err-print_port_name.was c.from_residual.ensures.0

pub returns : goal.returns
returns g c =
    prints_ok c.print_port_name.ensures c.in_ok-print_port_name.was c.print_index.ensures
