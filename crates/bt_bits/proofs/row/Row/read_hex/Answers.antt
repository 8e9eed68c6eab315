use Rattle.std.proofs.Common.{replicate, false}
use Rattle.std.proofs.lemmas.List.{length-replicate}
use Rattle.bt_bits.proofs.DigitLemmas.{row_bits-is}
use Rattle.bt_bits.proofs.row.Row.read_hex.Goals as goal

pub returns-then-not-is_read-clause-refused : goal.returns-then-not-is_read-clause-refused
returns-then-not-is_read-clause-refused c =
    row_bits-is (replicate c.args.len false) c.args.len c.read_field-is_read.new.digits.items
    (length-replicate c.args.len false) c.if-not-is_read.ensures.refused
