use Rattle.bt_bits.proofs.ColumnLemmas.{digit_with_column}
use Rattle.bt_bits.proofs.stack.with_column.Goals as goal

pub returns : goal.returns
returns c j = digit_with_column c.args.word c.args.column.word c.args.k j c.requires
