use Rattle.std.proofs.Common.{◌∙◌, ◌&&◌, ap, not}
use Rattle.driver_passes.specs.inner.NumberSets.{is_in}
use Rattle.driver_passes.proofs.NumberSetLemmas.{one_number}
use Rattle.driver_passes.proofs.number_set.NumberSet.remove.Goals as goal

pub returns : goal.returns
returns c = λ n. c.take_out_bits.ensures n ∙ ap (λ t. is_in c.args.self.now n && not t) (one_number c.args.number n)
