use Rattle.std.proofs.Common.{sym, arith}
use Rattle.device_rules.proofs.BitLemmas.{bits_few}
use Rattle.device_rules.proofs.RawLemmas.{ordered_at}
use Rattle.device_rules.proofs.raw.all_bits.Goals as goal

pub push_bits-requires-clause-ordered : goal.push_bits-requires-clause-ordered
push_bits-requires-clause-ordered c =
    ordered_at c.as_slice-ports.result.now c.loop-i.i c.index-ports-i.result
    c.as_slice-ports.ensures.rule c.loop-i-test.true (sym c.index-ports-i.is)

pub push_bits-requires-clause-few : goal.push_bits-requires-clause-few
push_bits-requires-clause-few c =
    let few = bits_few c.as_slice-ports.result.now c.loop-i.i c.index-ports-i.result
    c.as_slice-ports.ensures.rule c.loop-i-test.true (sym c.index-ports-i.is) in
    omega (arith, few)
