use Rattle.std.proofs.Common.{subst, ◌∙◌}
use Rattle.std.specs.Prelude.{All, IfOk}
use Rattle.diagnoser.specs.Diagnosis.{IsFaultOnBoard}
use Rattle.fault_sim.specs.Planned.{PlannedBoard}
use Rattle.batch_diag.specs.Verdicts.{AreVerdicts}
use Rattle.batch_diag.proofs.JudgeLemmas.{all_verdicts, all_named, all_counted}
use Rattle.batch_diag.proofs.judging.diagnose_blocks.Goals as goal

pub invariant_of-batch : goal.invariant_of-batch
invariant_of-batch g c = record { logs = rw (c.in_ok-test.ensures ∙ c.test.ensures ∙ c.in_ok-kept.ensures) c.requires.logs }

pub returns-clause-verdicts : goal.returns-clause-verdicts
returns-clause-verdicts g c =
    let result = c.judge_pieces.result in
    subst (λ (t : PlannedBoard). IfOk result (λ v. AreVerdicts t.board c.args.blocks.now v.items))
    (c.in_ok-test.ensures ∙ c.test.ensures ∙ c.in_ok-kept.ensures)
    (all_verdicts c.in_ok-test.test.board c.args.blocks.now (λ v. v.items) result c.judge_pieces.ensures)

pub returns-clause-count : goal.returns-clause-count
returns-clause-count g c =
    all_counted c.in_ok-test.test.board c.args.blocks.now (λ v. v.items) c.judge_pieces.result
    c.judge_pieces.ensures

pub returns-clause-named : goal.returns-clause-named
returns-clause-named g c =
    let result = c.judge_pieces.result in
    subst
    (λ (t : PlannedBoard). IfOk result
    (λ v. All (λ verdict. All (IsFaultOnBoard t.board) verdict.faults) v.items))
    (c.in_ok-test.ensures ∙ c.test.ensures ∙ c.in_ok-kept.ensures)
    (all_named c.in_ok-test.test.board c.args.blocks.now (λ v. v.items) result c.judge_pieces.ensures)
