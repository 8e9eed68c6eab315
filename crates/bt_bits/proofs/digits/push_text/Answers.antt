use Rattle.std.proofs.Common.{◌≡◌, ◌-◌, ◌+◌, ◌++◌, ◌∙◌, ap, arith, take, drop, length}
use Rattle.bt_bits.specs.inner.Digits.{digits_text}
use Rattle.bt_bits.proofs.TextLemmas.{text_piece}
use Rattle.bt_bits.proofs.digits.push_text.Goals as goal

pub returns : goal.returns
returns c =
    let digits = c.args.digits.now in
    let low = length digits - c.args.from - c.args.count in
    let few : length digits - c.args.from - c.args.count + c.args.count -
    (length digits - c.args.from - c.args.count) ≡ c.args.count = omega arith in
    c.push_digits.ensures ∙ ap (λ n. c.args.line.now ++ digits_text (take n (drop low digits))) few
    ∙ ap (λ t. c.args.line.now ++ t) (text_piece digits c.args.from c.args.count c.requires.digits)
