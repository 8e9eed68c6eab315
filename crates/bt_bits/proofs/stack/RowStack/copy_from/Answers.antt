use Rattle.std.proofs.Common.{ap, arith, length}
use Rattle.bt_bits.specs.Stacks.{stacked}
use Rattle.bt_bits.proofs.StackLemmas.{length-words}
use Rattle.bt_bits.proofs.stack.RowStack.copy_from.Goals as goal

pub unwrap-requires : goal.unwrap-requires
unwrap-requires c =
    let are = c.rows.invariant.0 in
    c.extend_from_slice.ensures.succeeds
    (omega (
      arith,
      ap (λ s. s.room) c.self.view_is,
      ap length c.deref.ensures.value,
      length-words c.rows.inside.len c.rows.inside.words.items are,
      (are 0 (omega arith)).count,
      ap (λ s. length (stacked s 0)) c.rows.view_is,
    ))
