use Rattle.std.proofs.Common.{◌≡◌, ◌<◌, ◌*◌, ◌∙◌, ap, arith, length, sym, ℕ}
use Rattle.std.specs.Prelude.{map}
use Rattle.std.proofs.lemmas.List.Elements.{All-same}
use Rattle.bt_bits.specs.Digits.{digits_of}
use Rattle.bt_bits.specs.Stacks.{digit_in}
use Rattle.bt_bits.proofs.DigitLemmas.{length-digits_of, digits_of-below, row_bits-is}
use Rattle.bt_bits.proofs.StackLemmas.{digits_each, stacked_by}
use Rattle.bt_bits.proofs.stack.RowStack.fill_with.Goals as goal

pub spread_digits-requires-clause-below : goal.spread_digits-requires-clause-below
spread_digits-requires-clause-below c =
    All-same (λ x. x < 16) _ _ c.digits.ensures (digits_of-below c.args.row.now.bits)

pub spread_digits-requires-clause-room : goal.spread_digits-requires-clause-room
spread_digits-requires-clause-room c =
    let room = ap (λ s. s.room) c.self.view_is in
    omega (arith, room, ap length c.digits.ensures, length-digits_of c.args.row.now.bits)

pub invariant_of-self : goal.invariant_of-self
invariant_of-self c =
    let bits = c.args.row.now.bits in
    let room = ap (λ s. s.room) c.self.view_is in
    let are : (j : ℕ) → j < 16 → map (digit_in j) c.spread_digits.new.words.items ≡ digits_of bits =
    λ j less. ap (map (digit_in j))
    (c.spread_digits.ensures.value ∙ ap (map (λ x. x * 1229782938247303441)) c.digits.ensures)
    ∙ digits_each (digits_of bits) j (digits_of-below bits) less in (
      stacked_by c.len-self-inside.result c.spread_digits.new.words.items (λ j. bits)
          (λ j less. sym c.len-self-inside.ensures.value) are,
      omega (arith, room),
      omega arith,
      omega arith,
    )

pub returns-clause-rows : goal.returns-clause-rows
returns-clause-rows c j less =
    let bits = c.args.row.now.bits in
    row_bits-is bits c.len-self-inside.result (map (digit_in j) c.spread_digits.new.words.items) (sym c.len-self-inside.ensures.value)
    (ap (map (digit_in j))
    (c.spread_digits.ensures.value
    ∙ ap (map (λ x. x * 1229782938247303441)) c.digits.ensures)
    ∙ digits_each (digits_of bits) j (digits_of-below bits) less)
