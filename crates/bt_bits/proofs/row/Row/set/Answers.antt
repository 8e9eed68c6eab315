use Rattle.std.proofs.Common.{◌≡◌, ◌∙◌, ◌/◌, ◌%◌, ◌<◌, ap, arith, length, get_or, set, length-set}
use Rattle.std.proofs.lemmas.List.{get_or_default}
use Rattle.bt_bits.specs.Digits.{digits_of}
use Rattle.bt_bits.specs.inner.Digits.{with_bit}
use Rattle.bt_bits.proofs.DigitLemmas.{length-digits_of, digits_of-set, seen_digits, row_bits-is, digits_of-row}
use Rattle.bt_bits.proofs.row.Row.set.Goals as goal

pub index-requires : goal.index-requires
index-requires c =
    let are = seen_digits _ c.args.self.now.bits c.self.inside.len c.self.inside.digits.items
    c.self.invariant.0 (ap (λ r. r.bits) c.self.view_is) in
    omega (arith, are.count, ap length are.values, length-digits_of c.args.self.now.bits, c.self.inside.digits.ok.0)

pub index_mut-requires : goal.index_mut-requires
index_mut-requires c =
    let are = seen_digits _ c.args.self.now.bits c.self.inside.len c.self.inside.digits.items
    c.self.invariant.0 (ap (λ r. r.bits) c.self.view_is) in
    omega (arith, are.count, ap length are.values, length-digits_of c.args.self.now.bits, c.self.inside.digits.ok.0)

pub invariant_of-self : goal.invariant_of-self
invariant_of-self c =
    let are = seen_digits _ c.args.self.now.bits c.self.inside.len c.self.inside.digits.items
    c.self.invariant.0 (ap (λ r. r.bits) c.self.view_is) in
    let within : c.args.i / 4
    < length c.self.inside.digits.items = omega
    (arith, are.count, ap length are.values, length-digits_of c.args.self.now.bits) in
    let read : c.index.result.now ≡ get_or (digits_of c.args.self.now.bits) (c.args.i / 4) 0 =
    c.index.ensures
    ∙ get_or_default c.self.inside.digits.items (c.args.i / 4) c.index.result.now 0 within
    ∙ ap (λ t. get_or t (c.args.i / 4) 0) are.values in
    let values : set c.self.inside.digits.items (c.args.i / 4) c.with_bit.result
    ≡ digits_of (set c.args.self.now.bits c.args.i c.args.bit) =
    ap (λ t. set t (c.args.i / 4) c.with_bit.result) are.values
    ∙ ap (set (digits_of c.args.self.now.bits) (c.args.i / 4))
    (c.with_bit.ensures ∙ ap (λ x. with_bit x (c.args.i % 4) c.args.bit) read)
    ∙ digits_of-set c.args.self.now.bits c.args.i c.args.bit c.requires in
    let count : length (set c.args.self.now.bits c.args.i c.args.bit)
    ≡ c.self.inside.len = length-set c.args.self.now.bits c.args.i c.args.bit ∙ are.count in (
      digits_of-row (set c.args.self.now.bits c.args.i c.args.bit) c.self.inside.len _ count values,
      omega arith,
      c.self.invariant.2,
      c.self.invariant.3,
    )

pub returns-clause-bits : goal.returns-clause-bits
returns-clause-bits c =
    let are = seen_digits _ c.args.self.now.bits c.self.inside.len c.self.inside.digits.items
    c.self.invariant.0 (ap (λ r. r.bits) c.self.view_is) in
    let within : c.args.i / 4
    < length c.self.inside.digits.items = omega
    (arith, are.count, ap length are.values, length-digits_of c.args.self.now.bits) in
    let read : c.index.result.now ≡ get_or (digits_of c.args.self.now.bits) (c.args.i / 4) 0 =
    c.index.ensures
    ∙ get_or_default c.self.inside.digits.items (c.args.i / 4) c.index.result.now 0 within
    ∙ ap (λ t. get_or t (c.args.i / 4) 0) are.values in
    let values : set c.self.inside.digits.items (c.args.i / 4) c.with_bit.result
    ≡ digits_of (set c.args.self.now.bits c.args.i c.args.bit) =
    ap (λ t. set t (c.args.i / 4) c.with_bit.result) are.values
    ∙ ap (set (digits_of c.args.self.now.bits) (c.args.i / 4))
    (c.with_bit.ensures ∙ ap (λ x. with_bit x (c.args.i % 4) c.args.bit) read)
    ∙ digits_of-set c.args.self.now.bits c.args.i c.args.bit c.requires in
    let count : length (set c.args.self.now.bits c.args.i c.args.bit)
    ≡ c.self.inside.len = length-set c.args.self.now.bits c.args.i c.args.bit ∙ are.count in
    row_bits-is (set c.args.self.now.bits c.args.i c.args.bit) c.self.inside.len _ count values
