use Rattle.std.proofs.Common.{rules, sym, arith}
use Rattle.device_rules.proofs.BitLemmas.{bits_few, bits_more}
use Rattle.device_rules.proofs.port_index.starts_of.Goals as goal

pub loop-port-preserved : goal.loop-port-preserved
loop-port-preserved c =
    let few = bits_few c.args.ports.now c.loop-port.port-index c.port-item.result c.requires c.loop-port-test.true (sym c.port-item.is) in
    let more = bits_more c.args.ports.now c.loop-port.port-index c.port-item.result c.loop-port-test.true (sym c.port-item.is) in
    record {
      size = search rules;
      each = search rules;
      bits = omega (arith, more, c.bit_count-bits.ensures.count, c.loop-port.invariant.bits);
      few = omega (arith, few, c.bit_count-bits.ensures.count, c.loop-port.invariant.bits);
    }
