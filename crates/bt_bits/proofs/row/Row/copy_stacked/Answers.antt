use Rattle.std.proofs.Common.{ap, arith, length}
use Rattle.bt_bits.proofs.StackLemmas.{length-words}
use Rattle.bt_bits.proofs.row.Row.copy_stacked.Goals as goal

pub copy_digits-requires-clause-room : goal.copy_digits-requires-clause-room
copy_digits-requires-clause-room c =
    let rows = c.args.rows.now in
    let are = c.words.ensures.stacked in
    omega (
      arith,
      ap (λ r. r.room) c.self.view_is,
      ap length c.words.ensures.words,
      length-words rows.len rows.words are,
      (are c.args.number c.requires.number).count,
    )
