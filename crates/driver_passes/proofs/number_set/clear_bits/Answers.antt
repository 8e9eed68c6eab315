use Rattle.std.proofs.Common.{◌&&◌, ◌%◌, get_or, not, arith}
use Rattle.std.proofs.Math.Bool.{and-true}
use Rattle.driver_passes.proofs.NumberSetLemmas.{bit_less, word_changed, word_past}
use Rattle.driver_passes.proofs.number_set.clear_bits.Goals as goal

pub returns-then-number-words : goal.returns-then-number-words
returns-then-number-words c = λ n.
    word_changed (λ b o. b && not o) and-true c.args.words.now c.args.number _ c.args.bits n
    (omega (arith, c.if-number-words.true))
    (bit_less (get_or c.args.words.now c.args.number 0) c.args.bits (n % 64) (omega arith)
    (omega arith))

pub returns-else-number-words : goal.returns-else-number-words
returns-else-number-words c = λ n. word_past c.args.words.now c.args.number c.args.bits n (omega (arith, c.if-number-words.false))
