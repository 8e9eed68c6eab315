use Rattle.std.proofs.Common.{◌∙◌, ap, arith, length}
use Rattle.bt_bits.proofs.DigitLemmas.{length-digits_of, seen_digits}
use Rattle.bt_bits.proofs.row.Row.copy_row.Goals as goal

pub unwrap-requires : goal.unwrap-requires
unwrap-requires c =
    let are = seen_digits _ c.args.row.now.bits c.row.inside.len c.row.inside.digits.items
    c.row.invariant.0 (ap (λ r. r.bits) c.row.view_is) in
    let room = ap (λ r. r.room) c.self.view_is in
    c.extend_from_slice.ensures.succeeds
    (omega (
      arith,
      room,
      ap length (c.deref.ensures.value ∙ are.values),
      length-digits_of c.args.row.now.bits,
    ))
