use Rattle.std.proofs.Common.{◌≡◌, ◌*◌, ◌/◌, ◌∙◌, ap, subst, length, take, arith}
use Rattle.std.proofs.lemmas.List.{take_rest}
use Rattle.bt_bits.specs.Digits.{digits_of}
use Rattle.bt_bits.proofs.DigitLemmas.{filled_values-more, filled_values-top}
use Rattle.bt_bits.proofs.digits.fill_values.Goals as goal

pub loop-k-preserved : goal.loop-k-preserved
loop-k-preserved c =
    filled_values-more c.args.bits.now c.loop-k.digits c.loop-k.k c.value.result (omega arith)
    (omega arith) c.loop-k.invariant c.value.ensures

pub returns-then-whole-digits : goal.returns-then-whole-digits
returns-then-whole-digits c =
    let whole : c.loop-k.k ≡ length c.args.bits.now / 4 = omega arith in
    filled_values-top c.args.bits.now c.loop-k.digits (length c.args.bits.now / 4)
    c.top_value.result (omega arith) (omega arith)
    (subst (λ k. take k c.loop-k.digits ≡ digits_of (take (4 * k) c.args.bits.now)) whole
    c.loop-k.invariant)
    (c.top_value.ensures
    ∙ ap digits_of (take_rest c.args.bits.now (4 * (length c.args.bits.now / 4))))
