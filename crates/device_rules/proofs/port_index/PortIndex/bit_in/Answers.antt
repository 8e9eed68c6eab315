-- The number of the bit is the number of bits before its port plus its place in the port.
use Rattle.std.proofs.Common.{get_or, sym, ap, ◌∙◌, arith}
use Rattle.device_rules.specs.Ports.{port_named, port_number, v2}
use Rattle.device_rules.specs.inner.Index.{index_place}
use Rattle.device_rules.proofs.BitLemmas.{number_below, nowhere_bit, outside_bit, inside_bit, bit_fits, bit_within}
use Rattle.device_rules.proofs.port_index.PortIndex.bit_in.Goals as goal

pub bounds-ports-port : goal.bounds-ports-port
bounds-ports-port c =
    let found = ap (λ ports. port_number ports c.args.name.now) c.as_slice-ports.ensures.ports ∙ sym c.number_of.ensures ∙ c.in-Some.is in
    number_below (port_named c.args.name.now) c.as_slice-ports.result.now c.in-Some.port found

pub bounds-ports-port-in-Some : goal.bounds-ports-port-in-Some
bounds-ports-port-in-Some c =
    let found = ap (λ ports. port_number ports c.args.name.now) c.as_slice-ports.ensures.ports ∙ sym c.number_of.ensures ∙ c.in-Some.is in
    number_below (port_named c.args.name.now) c.as_slice-ports.result.now c.in-Some.port found

pub start_of-requires : goal.start_of-requires
start_of-requires c = number_below (port_named c.args.name.now) c.args.self.now c.in-Some.port (sym c.number_of.ensures ∙ c.in-Some.is)

pub overflow_add-result : goal.overflow_add-result
overflow_add-result c =
    let ports = c.args.self.now in
    let same = c.as_slice-ports.ensures.ports in
    let rule = ap v2 (sym same) ∙ c.as_slice-ports.ensures.rule in
    let item = sym (c.index-ports-port.is ∙ ap (λ ports. get_or ports c.in-Some.port c.index-ports-port.result) same) in
    let fits = bit_fits ports c.args.name.now c.args.index c.in-Some.port c.in-Some-place_in.place
    c.start_of.result c.index-ports-port.result rule (sym c.number_of.ensures ∙ c.in-Some.is)
    item
    (ap (λ p. index_place p.range c.args.index) c.index-ports-port.is ∙ sym c.place_in.ensures
    ∙ c.in-Some-place_in.is) c.start_of.ensures in
    omega (arith, fits)

pub returns-in-None-clause-number : goal.returns-in-None-clause-number
returns-in-None-clause-number c =
    nowhere_bit c.args.self.now c.args.name.now c.args.index
    (ap v2 (sym c.as_slice-ports.ensures.ports) ∙ c.as_slice-ports.ensures.rule)
    (sym c.number_of.ensures ∙ c.in-None.is)

pub returns-in-None-place_in-clause-number : goal.returns-in-None-place_in-clause-number
returns-in-None-place_in-clause-number c =
    let same = c.as_slice-ports.ensures.ports in
    let item = sym (c.index-ports-port.is ∙ ap (λ ports. get_or ports c.in-Some.port c.index-ports-port.result) same) in
    outside_bit c.args.self.now c.args.name.now c.args.index c.in-Some.port
    c.index-ports-port.result (ap v2 (sym same) ∙ c.as_slice-ports.ensures.rule)
    (sym c.number_of.ensures ∙ c.in-Some.is) item
    (ap (λ p. index_place p.range c.args.index) c.index-ports-port.is ∙ sym c.place_in.ensures ∙ c.in-None-place_in.is)

pub returns-in-Some-place_in : goal.returns-in-Some-place_in
returns-in-Some-place_in c =
    let ports = c.args.self.now in
    let name = c.args.name.now in
    let at = c.args.index in
    let same = c.as_slice-ports.ensures.ports in
    let rule = ap v2 (sym same) ∙ c.as_slice-ports.ensures.rule in
    let item = sym (c.index-ports-port.is ∙ ap (λ ports. get_or ports c.in-Some.port c.index-ports-port.result) same) in
    let port = sym c.number_of.ensures ∙ c.in-Some.is in
    let place = ap (λ p. index_place p.range at) c.index-ports-port.is ∙ sym c.place_in.ensures ∙ c.in-Some-place_in.is in
    record {
      number =
          inside_bit ports name at c.in-Some.port c.in-Some-place_in.place c.start_of.result
          c.index-ports-port.result rule port item place c.start_of.ensures;
      few =
          bit_within ports name at c.in-Some.port c.in-Some-place_in.place c.start_of.result
          c.index-ports-port.result port item place c.start_of.ensures;
    }
