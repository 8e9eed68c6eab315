use Rattle.batch_diag.specs.Batch.{blocks_of_text}
use Rattle.batch_diag.specs.inner.Reading.{AreBlocksRead}
use Rattle.batch_diag.proofs.ReadLemmas.{read_end_all, read_text}
use Rattle.batch_diag.proofs.reader.blocks.Goals as goal
use Rattle.batch_diag.proofs.reader.blocks.Goals.{After-read_between}

whole : (c : After-read_between)
    → AreBlocksRead (λ v. v.items) c.args.rows c.args.len
    (blocks_of_text c.args.bytes.now c.args.rows c.args.len) c.read_between.result
whole c =
    let r = c.in-Ok.reading in
    read_text r (λ v. v.items) c.args.rows c.args.len
    (blocks_of_text c.args.bytes.now c.args.rows c.args.len) c.read_between.result
    c.in-Ok.ensures.said c.in-Ok.ensures.size.0 c.in-Ok.ensures.size.1
    (read_end_all r (λ v. v.items) c.count.result c.read_between.result c.count.ensures c.read_between.ensures)

pub returns-clause-read : goal.returns-clause-read
returns-clause-read c = (whole (goal.at.returns-clause-read c).After-read_between).0

pub returns-clause-size : goal.returns-clause-size
returns-clause-size c = (whole (goal.at.returns-clause-size c).After-read_between).1

pub returns-clause-inner : goal.returns-clause-inner
returns-clause-inner c = c.read_between.ensures.2
