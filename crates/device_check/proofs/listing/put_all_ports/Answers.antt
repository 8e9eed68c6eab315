use Rattle.std.proofs.Common.{ap, sym, subst, ◌∙◌}
use Rattle.line_printer.proofs.PrintLemmas.{prints_same}
use Rattle.device_check.specs.DeviceText.{port_lines}
use Rattle.device_check.specs.inner.ListingForms.{Rises}
use Rattle.device_check.proofs.ListingLemmas.{rises_all}
use Rattle.device_check.proofs.listing.put_all_ports.Goals as goal

pub put_ports-requires : goal.put_ports-requires
put_ports-requires g c = subst (Rises 0) (sym c.as_slice-2.ensures) (rises_all c.args.device.now.bits c.requires.ports.in_order)

pub returns : goal.returns
returns g c =
    prints_same
    (ap (λ l. port_lines l c.as_slice-2.result.now) c.as_slice.ensures
    ∙ ap (port_lines c.args.device.now.ports) c.as_slice-2.ensures) c.put_ports.ensures
