use Rattle.driver_passes.proofs.NumberSetLemmas.{none_blank}
use Rattle.driver_passes.proofs.number_set.NumberSet.new.Goals as goal

pub returns-clause-none : goal.returns-clause-none
returns-clause-none c = λ n. none_blank c.in_ok-words.words.items _ n c.in_ok-words.ensures
