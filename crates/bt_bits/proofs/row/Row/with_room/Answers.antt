use Rattle.std.proofs.Common.{arith, refl, []}
use Rattle.bt_bits.proofs.DigitLemmas.{row_bits-is, digits_of-row}
use Rattle.bt_bits.proofs.row.Row.with_room.Goals as goal

pub invariant_of-result : goal.invariant_of-result
invariant_of-result c = (
  digits_of-row [] 0 c.in_ok-with_capacity.field-0.items refl
      c.in_ok-with_capacity.ensures.items,
  omega arith,
  omega (arith, c.in_ok-with_capacity.ensures.exact),
  omega arith,
)

pub returns-clause-bits : goal.returns-clause-bits
returns-clause-bits c =
    row_bits-is [] 0 c.in_ok-with_capacity.field-0.items refl c.in_ok-with_capacity.ensures.items
