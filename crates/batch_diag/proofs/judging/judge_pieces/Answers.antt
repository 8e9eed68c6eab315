use Rattle.std.proofs.Common.{arith, refl, rules}
use Rattle.batch_diag.proofs.JudgeLemmas.{judged_pieces}
use Rattle.batch_diag.proofs.judging.judge_pieces.Goals as goal

pub returns : goal.returns
returns g c =
    judged_pieces c.args.batch _ c.number.result (omega (arith, c.number.ensures.some)) refl
    (λ v. v.items) _ _ c.in_pieces.result c.in_pieces.ensures (λ number answer gives. search rules)
