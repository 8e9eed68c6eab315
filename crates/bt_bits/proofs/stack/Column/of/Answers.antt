use Rattle.bt_bits.proofs.ColumnLemmas.{spread_word-bit}
use Rattle.bt_bits.proofs.stack.Column.of.Goals as goal

pub returns : goal.returns
returns c = spread_word-bit c.args.number
