use Rattle.std.proofs.Common.{◌/◌, ◌%◌, get_or, arith}
use Rattle.walk_test.proofs.DigitLemmas.{clear_bit}
use Rattle.walk_test.proofs.digits.MaskedRow.position_after.Goals as goal

pub returns-else-at-lt3-clause-none : goal.returns-else-at-lt3-clause-none
returns-else-at-lt3-clause-none c p past before =
    let row = c.args.self.now in
    clear_bit (get_or row.digits.now (p / 4) 0) (get_or row.mask.now (p / 4) 0) (p % 4)
    (c.next_marked.ensures.clear (p / 4) (omega (arith, past, c.if-at-lt3.false)) (omega (arith, before)))
