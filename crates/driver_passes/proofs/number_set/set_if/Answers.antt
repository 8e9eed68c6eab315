use Rattle.std.proofs.Common.{◌∙◌, ◌||◌, ◌&&◌, ◌/◌, ◌%◌, ◌*◌, ◌^◌, ap, get_or, refl, sym}
use Rattle.std.specs.Prelude.{◌==◌}
use Rattle.std.proofs.Math.Bool.{and-true}
use Rattle.driver_passes.specs.inner.NumberSets.{is_in}
use Rattle.driver_passes.proofs.NumberSetLemmas.{bit_more, one_number, word_changed}
use Rattle.driver_passes.proofs.number_set.set_if.Goals as goal

pub returns-then-holds : goal.returns-then-holds
returns-then-holds c = λ n.
    let words = c.args.words.now in
    let number = c.args.number in
    let bits = 1 * 2 ^ (number % 64) % 2 ^ 64 in
    word_changed (λ b o. o || b) (λ b. refl) words (number / 64) _ bits n c.requires
    (bit_more (get_or words (number / 64) 0) bits (n % 64)) ∙
    ap (λ t. t || is_in words n) (one_number number n ∙ sym (and-true (n == number)) ∙ ap (λ t. n == number && t) (sym c.if-holds.true))
