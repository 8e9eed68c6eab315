use Rattle.driver_passes.proofs.BlockLemmas.{place_more}
use Rattle.driver_passes.proofs.blocks.with_place.Goals as goal

pub returns : goal.returns
returns c = λ q. place_more c.args.block.word c.args.block.bits c.args.place q c.requires
