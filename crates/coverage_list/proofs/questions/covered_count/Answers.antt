use Rattle.std.proofs.Common.{◌≡◌, ◌+◌, cond, length, filter, take, sym, ap, ◌∙◌, arith}
use Rattle.board_defs.specs.Decided.{is_covered}
use Rattle.coverage_list.proofs.NetLemmas.{counted}
use Rattle.coverage_list.proofs.questions.covered_count.Goals.{then-is_covered, else-is_covered}
use Rattle.coverage_list.proofs.questions.covered_count.Goals as goal

pub loop-n-preserved : goal.loop-n-preserved
loop-n-preserved c =
    let nets = c.args.board.now.nets in
    let more : c.loop-n.covered + cond c.is_covered.result 1 0
    ≡ length (filter (is_covered c.args.board.now) (take (c.loop-n.n + 1) nets)) =
    counted (is_covered c.args.board.now) nets c.loop-n.n c.loop-n.covered c.is_covered.result
    (omega arith) c.is_covered.ensures c.loop-n.invariant.counted in
    elim c.if-is_covered.branch [
      | then-is_covered w ↦ record {
        counted = w.covered-is
            ∙ ap (λ t. c.loop-n.covered + cond t 1 0) (sym w.if-is_covered.true)
            ∙ more;
        within = omega arith;
      }
      | else-is_covered w ↦ record {
        counted = w.covered-is
            ∙ (let e : c.loop-n.covered ≡ c.loop-n.covered + 0 = omega arith in e)
            ∙ ap (λ t. c.loop-n.covered + cond t 1 0) (sym w.if-is_covered.false)
            ∙ more;
        within = omega arith;
      }
    ]
