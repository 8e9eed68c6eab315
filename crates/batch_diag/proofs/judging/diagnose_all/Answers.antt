use Rattle.batch_diag.proofs.judging.diagnose_all.Goals as goal

pub diagnose_blocks-requires-clause-logs : goal.diagnose_blocks-requires-clause-logs
diagnose_blocks-requires-clause-logs g c = λ κs within. rw c.of-test.ensures c.requires.logs

pub returns-clause-verdicts : goal.returns-clause-verdicts
returns-clause-verdicts g c = rw c.of-test.ensures at c.diagnose_blocks.ensures.verdicts

pub returns-clause-named : goal.returns-clause-named
returns-clause-named g c = rw c.of-test.ensures at c.diagnose_blocks.ensures.named
