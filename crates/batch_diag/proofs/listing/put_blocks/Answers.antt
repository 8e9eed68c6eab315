use Rattle.batch_diag.proofs.TextLemmas.{next_ok, next_err, all_put}
use Rattle.batch_diag.proofs.listing.put_blocks.Goals as goal

pub returns-in_err-put_block : goal.returns-in_err-put_block
returns-in_err-put_block g c =
    next_err c.args.board.now c.args.blocks.now c.args.verdicts.now c.requires.count c.loop-i.i
    c.index-blocks-i.result c.index-verdicts-i.result c.index-blocks-i.is c.index-verdicts-i.is
    c.loop-i-test.true c.loop-i.invariant c.put_block.ensures c.in_err-put_block.was
    c.from_residual.ensures.0

pub loop-i-preserved : goal.loop-i-preserved
loop-i-preserved g c =
    next_ok c.args.board.now c.args.blocks.now c.args.verdicts.now c.requires.count c.loop-i.i
    c.index-blocks-i.result c.index-verdicts-i.result c.index-blocks-i.is c.index-verdicts-i.is
    c.loop-i-test.true c.loop-i.invariant c.put_block.ensures c.in_ok-put_block.was

pub returns : goal.returns
returns g c =
    all_put c.args.board.now c.args.blocks.now c.args.verdicts.now c.requires.count c.loop-i.i
    c.loop-i-test.false c.loop-i.invariant
