use Rattle.std.proofs.Common.{ap, arith, refl, []}
use Rattle.std.specs.Prelude.{map}
use Rattle.bt_bits.specs.Digits.{digit_row}
use Rattle.bt_bits.specs.Stacks.{digit_in}
use Rattle.bt_bits.proofs.StackLemmas.{stacked_by}
use Rattle.bt_bits.proofs.stack.RowStack.with_room.Goals as goal

pub invariant_of-result : goal.invariant_of-result
invariant_of-result c = (
  stacked_by 0 c.in_ok-with_capacity.field-0.items (λ j. []) (λ j less. refl)
      (λ j less. ap (map (digit_in j)) c.in_ok-with_capacity.ensures.items),
  omega arith,
  omega (arith, c.in_ok-with_capacity.ensures.exact),
  omega arith,
)

pub returns-clause-rows : goal.returns-clause-rows
unfolding digit_row
returns-clause-rows c = λ j less. refl
