use Rattle.std.proofs.Common.{sym, ap, ◌∙◌}
use Rattle.device_rules.specs.Ports.{port_named, port_number, port_of}
use Rattle.device_rules.proofs.BitLemmas.{number_below, found_item, nothing_found}
use Rattle.device_rules.proofs.port_index.PortIndex.port_at.Goals as goal

pub bounds-ports-number : goal.bounds-ports-number
bounds-ports-number c =
    let found = ap (λ ports. port_number ports c.args.name.now) c.as_slice-ports.ensures.ports ∙ sym c.number_of.ensures ∙ c.in-Some.is in
    number_below (port_named c.args.name.now) c.as_slice-ports.result.now c.in-Some.number found

pub returns-in-Some : goal.returns-in-Some
returns-in-Some c =
    let found = ap (λ ports. port_number ports c.args.name.now) c.as_slice-ports.ensures.ports ∙ sym c.number_of.ensures ∙ c.in-Some.is in
    found_item (port_named c.args.name.now) c.as_slice-ports.result.now c.in-Some.number _ found (sym c.index-ports-number.is)
    ∙ ap (λ ports. port_of ports c.args.name.now) c.as_slice-ports.ensures.ports

pub returns-in-None : goal.returns-in-None
returns-in-None c = nothing_found (port_named c.args.name.now) c.args.self.now (sym c.number_of.ensures ∙ c.in-None.is)
