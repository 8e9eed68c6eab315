use Rattle.std.proofs.Common.{ap, arith, replicate, false}
use Rattle.std.proofs.lemmas.List.{length-replicate}
use Rattle.bt_bits.proofs.DigitLemmas.{row_bits-is, digits_of-row}
use Rattle.bt_bits.proofs.row.Row.clear.Goals as goal

pub invariant_of-self : goal.invariant_of-self
invariant_of-self c =
    let room = ap (λ r. r.room) c.self.view_is in (
      digits_of-row (replicate c.args.len false) c.args.len c.make_zeros.new.digits.items
          (length-replicate c.args.len false) c.make_zeros.ensures.value,
      omega (arith, room),
      omega arith,
      omega arith,
    )

pub returns-clause-bits : goal.returns-clause-bits
returns-clause-bits c =
    row_bits-is (replicate c.args.len false) c.args.len c.make_zeros.new.digits.items
    (length-replicate c.args.len false) c.make_zeros.ensures.value
