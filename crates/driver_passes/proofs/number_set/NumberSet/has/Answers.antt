use Rattle.std.proofs.Common.{◌∙◌, ◌/◌, ◌%◌, ap, get_or}
use Rattle.driver_passes.specs.inner.NumberSets.{has_bit, is_in}
use Rattle.driver_passes.proofs.number_set.NumberSet.has.Goals as goal

pub returns : goal.returns
unfolding is_in
returns c =
    let n = c.args.number in
    c.has_bit.ensures
    ∙ ap (λ w. has_bit w (n % 64))
    (c.word_at.ensures
    ∙ ap (λ v. get_or v (n / 64) 0) (c.deref.ensures.value ∙ c.self.view_is))
