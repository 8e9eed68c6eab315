use Rattle.std.proofs.Common.{ap, arith, length, refl}
use Rattle.bt_bits.proofs.DigitLemmas.{row_bits-is, digits_of-row}
use Rattle.bt_bits.proofs.row.Row.copy_from.Goals as goal

pub invariant_of-self : goal.invariant_of-self
invariant_of-self c =
    let room = ap (λ r. r.room) c.self.view_is in (
      digits_of-row c.args.bits.now (length c.args.bits.now) c.copy_bits.new.digits.items refl
          c.copy_bits.ensures.value,
      omega (arith, room),
      omega arith,
      omega arith,
    )

pub returns-clause-bits : goal.returns-clause-bits
returns-clause-bits c =
    row_bits-is c.args.bits.now (length c.args.bits.now) c.copy_bits.new.digits.items refl c.copy_bits.ensures.value
