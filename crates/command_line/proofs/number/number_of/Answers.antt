use Rattle.std.proofs.Common.{sym}
use Rattle.command_line.proofs.NumberLemmas.{unread_number}
use Rattle.command_line.proofs.number.number_of.Goals as goal

pub returns-in_default : goal.returns-in_default
returns-in_default c =
    record {
      value = unread_number c.args.most c.args.word.now c.in_default.field-0
          c.in_default.ensures.value.0 (sym c.if-not-are_digits.ensures) c.ranges.most.fits;
      range =
          tt;
    }
