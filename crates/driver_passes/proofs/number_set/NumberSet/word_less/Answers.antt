use Rattle.std.proofs.Common.{arith}
use Rattle.driver_passes.specs.inner.NumberSets.{is_in}
use Rattle.driver_passes.proofs.NumberSetLemmas.{less_bits}
use Rattle.driver_passes.proofs.number_set.NumberSet.word_less.Goals as goal

pub returns : goal.returns
returns c =
    less_bits (is_in c.args.self.now) (is_in c.args.others.now) c.args.number c.word.result
    c.word-2.result (omega arith) c.word.ensures.bits c.word-2.ensures.bits
