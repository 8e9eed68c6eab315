-- No two ports have the same name, so a port with the name is the first that has it.
use Rattle.std.proofs.Common.{refl, sym, ap, ◌∙◌}
use Rattle.std.specs.Str.{bytes_eq}
use Rattle.std.proofs.lemmas.Option.{slice_get_read}
use Rattle.device_rules.specs.Ports.{port_number}
use Rattle.device_rules.proofs.BitLemmas.{apart, is_first}
use Rattle.device_rules.proofs.port_index.PortIndex.has_name.Goals as goal

pub returns-in-Some : goal.returns-in-Some
returns-in-Some c = λ named.
    let ports = c.as_slice.result.now in
    let port = slice_get_read ports _ c.args.place c.in-Some.port.now refl c.in-Some.ensures.lookup.3.0 c.in-Some.ensures.lookup.1 in
    let name = ap (λ name. bytes_eq name c.args.name.now) (sym c.bytes.ensures) ∙ sym c.eq.ensures ∙ named in
    ap (λ ports. port_number ports c.args.name.now) (sym c.as_slice.ensures.ports)
    ∙ is_first c.args.name.now ports c.args.place c.in-Some.port.now
    (apart ports c.as_slice.ensures.rule) port name
