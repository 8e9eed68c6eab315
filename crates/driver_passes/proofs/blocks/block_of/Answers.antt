use Rattle.driver_passes.proofs.BlockLemmas.{one_place}
use Rattle.driver_passes.proofs.blocks.block_of.Goals as goal

pub returns : goal.returns
returns c = one_place c.args.place
