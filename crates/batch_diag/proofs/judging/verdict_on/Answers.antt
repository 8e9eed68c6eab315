use Rattle.std.proofs.Common.{sym, subst}
use Rattle.std.specs.Prelude.{IfOk}
use Rattle.batch_diag.specs.declared.block.Block.{Block}
use Rattle.batch_diag.specs.Verdicts.{IsVerdict}
use Rattle.batch_diag.proofs.JudgeLemmas.{judged_by}
use Rattle.batch_diag.proofs.judging.verdict_on.Goals as goal

pub returns : goal.returns
returns g c =
    let board = c.args.batch.test.now.board in
    let result = c.diagnose_in.result in
    judged_by c.args.batch c.args.i c.index-batch-i.result c.requires c.index-batch-i.is result
    (subst (λ (block : Block). IfOk result (λ v. IsVerdict board block v)) (sym c.index-batch-i.is) c.diagnose_in.ensures.diagnosis)
    c.diagnose_in.ensures.named
