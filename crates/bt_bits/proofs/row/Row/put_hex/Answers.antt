use Rattle.std.proofs.Common.{◌∙◌, ◌++◌, ◌<◌, ap, sym, arith, length, take, drop}
use Rattle.std.proofs.lemmas.List.Elements.{All-same}
use Rattle.bt_bits.specs.inner.Digits.{digits_text}
use Rattle.bt_bits.proofs.DigitLemmas.{length-digits_of, digits_of-below, seen_digits}
use Rattle.bt_bits.proofs.TextLemmas.{hex_text-digits}
use Rattle.bt_bits.proofs.row.Row.put_hex.Goals as goal

pub push_text-requires-clause-below : goal.push_text-requires-clause-below
push_text-requires-clause-below c =
    let are = seen_digits _ c.args.self.now.bits c.self.inside.len c.self.inside.digits.items
    c.self.invariant.0 (ap (λ r. r.bits) c.self.view_is) in
    All-same (λ x. x < 16) _ _ (c.deref.ensures.value ∙ are.values) (digits_of-below c.args.self.now.bits)

pub push_text-requires-clause-digits : goal.push_text-requires-clause-digits
push_text-requires-clause-digits c =
    let are = seen_digits _ c.args.self.now.bits c.self.inside.len c.self.inside.digits.items
    c.self.invariant.0 (ap (λ r. r.bits) c.self.view_is) in
    omega (arith, ap length (c.deref.ensures.value ∙ are.values), length-digits_of c.args.self.now.bits)

pub returns : goal.returns
returns c =
    let are = seen_digits _ c.args.self.now.bits c.self.inside.len c.self.inside.digits.items
    c.self.invariant.0 (ap (λ r. r.bits) c.self.view_is) in
    c.push_text.ensures
    ∙ ap (λ t. c.args.line.now ++ take c.args.count (drop c.args.from t))
    (ap digits_text (c.deref.ensures.value ∙ are.values)
    ∙ sym (hex_text-digits c.args.self.now.bits))
