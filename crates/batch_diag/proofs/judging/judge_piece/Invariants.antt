use Rattle.batch_diag.specs.inner.Judging.{Judged}
use Rattle.batch_diag.proofs.judging.judge_piece.Given as goal

-- `verdicts` has the verdicts on the blocks `piece.first..i`
abbrev pub invariant-loop-i : goal.invariant-loop-i
invariant-loop-i g l = Judged l.batch l.piece.first l.i l.verdicts.items
