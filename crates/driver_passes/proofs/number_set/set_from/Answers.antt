use Rattle.std.proofs.Common.{◌/◌, ◌%◌, ◌||◌, false, get_or, ap, ◌∙◌, arith}
use Rattle.driver_passes.specs.inner.NumberSets.{has_bit}
use Rattle.driver_passes.proofs.NumberSetLemmas.{bit_more, none_past, words_by}
use Rattle.driver_passes.proofs.number_set.set_from.Goals as goal

pub returns : goal.returns
returns c = λ n.
    words_by (λ b o. o || b) c.args.words.now c.loop-i.words c.args.others.now n
    (λ past. ap (λ b. b || false)
    (none_past c.args.others.now n (omega (arith, past, c.requires)))) c.loop-i.auto.words
    (λ within.
    ap (λ w. has_bit w (n % 64)) (c.loop-i.invariant.done (n / 64) (omega (arith, within, c.requires, c.loop-i-test.false)))
    ∙ bit_more (get_or c.args.words.now (n / 64) 0) (get_or c.args.others.now (n / 64) 0) (n % 64))
