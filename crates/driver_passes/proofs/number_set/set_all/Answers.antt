use Rattle.std.proofs.Common.{◌/◌, arith}
use Rattle.driver_passes.proofs.NumberSetLemmas.{all_ones}
use Rattle.driver_passes.proofs.number_set.set_all.Goals as goal

pub returns : goal.returns
returns c = λ n within. all_ones c.loop-word.words n (c.loop-word.invariant (n / 64) (omega (arith, within)))
