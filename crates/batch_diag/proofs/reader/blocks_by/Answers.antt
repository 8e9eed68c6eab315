use Rattle.batch_diag.specs.Batch.{blocks_of_text}
use Rattle.batch_diag.specs.inner.Reading.{AreBlocksRead}
use Rattle.batch_diag.proofs.ReadLemmas.{read_text}
use Rattle.batch_diag.proofs.reader.blocks_by.Goals as goal
use Rattle.batch_diag.proofs.reader.blocks_by.Goals.{After-read_pieces}

whole : (g : _) (c : After-read_pieces g)
    → AreBlocksRead (λ v. v.items) c.args.rows c.args.len
    (blocks_of_text c.args.text.items.now c.args.rows c.args.len) c.read_pieces.result
whole g c =
    read_text c.in-Ok.reading (λ v. v.items) c.args.rows c.args.len
    (blocks_of_text c.args.text.items.now c.args.rows c.args.len) c.read_pieces.result
    c.in-Ok.ensures.said c.in-Ok.ensures.size.0 c.in-Ok.ensures.size.1 c.read_pieces.ensures

pub returns-clause-read : goal.returns-clause-read
returns-clause-read g c = (whole g (goal.at.returns-clause-read g c).After-read_pieces).0

pub returns-clause-size : goal.returns-clause-size
returns-clause-size g c = (whole g (goal.at.returns-clause-size g c).After-read_pieces).1

pub returns-clause-inner : goal.returns-clause-inner
returns-clause-inner g c = c.read_pieces.ensures.2
