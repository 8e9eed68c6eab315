use Rattle.std.proofs.Common.{◌+◌, ◌∷◌, [], ℕ, List, length, length-append, get_or, ap, ◌∙◌, arith}
use Rattle.fault_sim.proofs.PlaceLemmas.{before_few, next_start, starts_more}
use Rattle.fault_sim.proofs.universe.pair_starts.Goals as goal

pub overflow_add-start : goal.overflow_add-start
overflow_add-start c = omega (arith, c.loop-a.invariant.1, before_few c.args.nets c.loop-a.a c.requires, c.from-start.ensures, c.requires)

pub loop-a-preserved : goal.loop-a-preserved
loop-a-preserved c =
    let nets = c.args.nets in
    let a = c.loop-a.a in
    let next = ap (λ (k : ℕ). c.loop-a.start + k) c.from-start.ensures
    ∙ next_start nets a c.loop-a.start c.loop-a-test.true c.loop-a.invariant.1 in
    let value : ℕ = c.loop-a.start + c.from-start.result in (
      ap (λ (l : List ℕ). length l) c.in_ok-push-2.ensures.items
          ∙ length-append c.loop-a.starts.items (value ∷ [])
          ∙ ap (λ (k : ℕ). k + 1) c.loop-a.invariant.0,
      next,
      λ k le. ap (λ (l : List ℕ). get_or l k 0) c.in_ok-push-2.ensures.items
          ∙ starts_more nets a c.loop-a.starts.items value c.loop-a-test.true c.loop-a.invariant.0
          c.loop-a.invariant.2 next k le,
    )
