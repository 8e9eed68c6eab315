use Rattle.batch_diag.proofs.TextLemmas.{puts_none, puts_some, some_block}
use Rattle.batch_diag.proofs.listing.write_batch.Goals as goal

pub returns-then-is_empty : goal.returns-then-is_empty
returns-then-is_empty g c = puts_none c.args.board.now c.args.blocks.now c.args.verdicts.now c.if-is_empty.ensures c.put.ensures

pub returns : goal.returns
returns g c =
    puts_some c.args.board.now c.args.blocks.now c.args.verdicts.now c.requires.count
    (some_block c.args.blocks.now c.if-is_empty.ensures) c.put_blocks.ensures
