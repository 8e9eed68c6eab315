use Rattle.std.proofs.Common.{◌*◌, true, refl, sym, ◌∙◌}
use Rattle.std.proofs.lemmas.Bool.{agree_below_at}
use Rattle.bt_bits.specs.Digits.{digit_bit}
use Rattle.bt_bits.proofs.stack.Column.of_bit.Goals as goal

pub returns-then-bit : goal.returns-then-bit
returns-then-bit c j row = agree_below_at (λ j. digit_bit 1229782938247303441 (4 * j)) (λ _. true) 16 j refl row ∙ sym c.if-bit.true
