use Rattle.std.proofs.Common.{◌≡◌, ◌≤◌, arith}
use Rattle.batch_diag.proofs.JudgeLemmas.{judged_start, judged_more, judged_end}
use Rattle.batch_diag.proofs.judging.judge_piece.Goals as goal

pub loop-i-init : goal.loop-i-init
loop-i-init g c = judged_start c.args.batch c.args.piece.first c.new-verdicts.result.items c.new-verdicts.ensures.items

pub loop-i-preserved : goal.loop-i-preserved
loop-i-preserved g c =
    judged_more c.args.batch c.args.piece.first c.loop-i.i c.loop-i.verdicts.items
    c.push.new.self.items c.in_ok-judge.field-0 c.loop-i.auto.i c.in_ok-push.ensures.items
    c.loop-i.invariant c.in_ok-judge.ensures

pub returns : goal.returns
returns g c =
    let last : c.loop-i.i ≤ c.args.piece.end = c.loop-i.auto.i-end c.requires.order in
    let end : c.loop-i.i ≡ c.args.piece.end = omega (arith, last, c.loop-i-test.false) in
    judged_end c.args.batch c.args.piece.first c.loop-i.i c.args.piece.end c.loop-i.verdicts.items end c.loop-i.invariant
