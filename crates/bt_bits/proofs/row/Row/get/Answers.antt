use Rattle.std.proofs.Common.{◌≡◌, ◌∙◌, ◌/◌, ◌%◌, ◌<◌, ap, sym, arith, false, length, get_or, Some}
use Rattle.std.proofs.lemmas.List.{get_or_default}
use Rattle.std.proofs.lemmas.Option.{slice_get-get_or}
use Rattle.bt_bits.specs.Digits.{digit_bit, digits_of}
use Rattle.bt_bits.proofs.DigitLemmas.{length-digits_of, digits_of-get, seen_digits}
use Rattle.bt_bits.proofs.row.Row.get.Goals as goal

pub index-requires : goal.index-requires
index-requires c =
    let are = seen_digits _ c.args.self.now.bits c.self.inside.len c.self.inside.digits.items
    c.self.invariant.0 (ap (λ r. r.bits) c.self.view_is) in
    omega (arith, are.count, ap length are.values, length-digits_of c.args.self.now.bits, c.self.inside.digits.ok.0)

pub returns : goal.returns
returns c =
    let are = seen_digits _ c.args.self.now.bits c.self.inside.len c.self.inside.digits.items
    c.self.invariant.0 (ap (λ r. r.bits) c.self.view_is) in
    let within : c.args.i / 4
    < length c.self.inside.digits.items = omega
    (arith, are.count, ap length are.values, length-digits_of c.args.self.now.bits) in
    let read : c.index.result.now ≡ get_or (digits_of c.args.self.now.bits) (c.args.i / 4) 0 =
    c.index.ensures
    ∙ get_or_default c.self.inside.digits.items (c.args.i / 4) c.index.result.now 0 within
    ∙ ap (λ t. get_or t (c.args.i / 4) 0) are.values in
    slice_get-get_or c.args.self.now.bits c.args.i false c.requires
    ∙ ap (λ b. Some b)
    (sym
    (c.digit_bit.ensures ∙ ap (λ x. digit_bit x (c.args.i % 4)) read
    ∙ digits_of-get c.args.self.now.bits c.args.i c.requires))
