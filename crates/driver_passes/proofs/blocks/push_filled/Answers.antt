use Rattle.std.proofs.Common.{◌∙◌, ◌||◌, ap, sym}
use Rattle.std.proofs.Math.Bool.{or-false}
use Rattle.driver_passes.specs.inner.Blocks.{has_place}
use Rattle.driver_passes.proofs.BlockLemmas.{block_more, no_place}
use Rattle.driver_passes.proofs.blocks.push_filled.Goals as goal

pub returns-in_ok-push : goal.returns-in_ok-push
returns-in_ok-push c = λ q. ap (λ v. has_place v q) c.in_ok-push.ensures ∙ block_more c.args.blocks.now c.args.block q

pub returns-else-block-ne0 : goal.returns-else-block-ne0
returns-else-block-ne0 c =
    λ q. sym
    (ap (λ t. has_place c.args.blocks.now q || t)
    (no_place c.args.block.word c.args.block.bits q c.if-block-ne0.false)
    ∙ or-false (has_place c.args.blocks.now q))
