use Rattle.std.proofs.Common.{◌/◌, ◌%◌, not, ◌&&◌, get_or, refl, ap, ◌∙◌, arith}
use Rattle.driver_passes.specs.inner.NumberSets.{has_bit}
use Rattle.driver_passes.proofs.NumberSetLemmas.{bit_less, words_by}
use Rattle.driver_passes.proofs.number_set.clear_from.Goals as goal

pub returns : goal.returns
returns c = λ n from.
    words_by (λ b o. b && not o) c.args.words.now c.loop-i.words c.args.others.now n (λ past. refl) c.loop-i.auto.words (λ within.
    ap (λ w. has_bit w (n % 64)) (c.loop-i.invariant.done (n / 64) from (omega (arith, within, c.loop-i-test.false)))
    ∙ bit_less (get_or c.args.words.now (n / 64) 0) (get_or c.args.others.now (n / 64) 0) (n % 64)
    (omega (arith, c.type_inv.others (n / 64))) (omega arith))
