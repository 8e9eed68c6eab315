use Rattle.std.proofs.Common.{◌∙◌}
use Rattle.coverage_list.proofs.NetLemmas.{bit_says}
use Rattle.coverage_list.proofs.listing.is_unpaired.Goals as goal

pub returns : goal.returns
returns c low at high at' = c.has_bit.ensures ∙ bit_says c.args.board.now c.args.low c.args.high c.args.unpaired low high c.requires at at'
