use Rattle.btest_core.proofs.JoinLemmas.{kept}
use Rattle.btest_core.proofs.board.joined_files.Goals as goal

pub returns-in-Ok-clause-kept : goal.returns-in-Ok-clause-kept
returns-in-Ok-clause-kept c = kept c.args.chain.now c.args.nets c.in-Ok.joined c.in-Ok.ensures.answer
