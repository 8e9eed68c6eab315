use Rattle.std.proofs.Common.{◌∙◌, ap, get_or}
use Rattle.driver_passes.proofs.NumberSetLemmas.{word_bits}
use Rattle.driver_passes.proofs.number_set.NumberSet.word.Goals as goal

pub returns-clause-bits : goal.returns-clause-bits
returns-clause-bits c =
    word_bits c.args.self.now c.args.number c.word_at.result
    (c.word_at.ensures ∙ ap (λ v. get_or v c.args.number 0) (c.deref.ensures.value ∙ c.self.view_is))
