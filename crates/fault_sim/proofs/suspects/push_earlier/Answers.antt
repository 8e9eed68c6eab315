use Rattle.std.proofs.Common.{◌++◌, ℕ, List, ap, sym, ◌∙◌, append_assoc, arith}
use Rattle.std.specs.List.{flat_map, range_with_len}
use Rattle.fault_sim.specs.inner.Suspects.{pair_suspects}
use Rattle.fault_sim.proofs.RangeLemmas.{flat_more}
use Rattle.fault_sim.proofs.suspects.push_earlier.Goals as goal

pub loop-a-preserved : goal.loop-a-preserved
loop-a-preserved c =
    let lists = c.args.lists.now in
    let i = c.loop-a.a in
    let old : List ℕ = c.args.places.now.items in
    c.in_ok-push_pair.ensures
    ∙ ap (λ (l : List ℕ). l ++ pair_suspects lists i c.args.k) c.loop-a.invariant
    ∙ append_assoc old (flat_map (λ x. pair_suspects lists x c.args.k) (range_with_len 0 i)) (pair_suspects lists i c.args.k)
    ∙ ap (λ (l : List ℕ). old ++ l) (sym (flat_more (λ x. pair_suspects lists x c.args.k) 0 i i (omega arith)))
