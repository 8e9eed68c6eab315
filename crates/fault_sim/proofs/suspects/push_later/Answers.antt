use Rattle.std.proofs.Common.{◌≡◌, ◌+◌, ◌-◌, ◌++◌, ◌≤◌, ℕ, suc, List, length, ap, sym, ◌∙◌, append_assoc, arith}
use Rattle.std.specs.List.{flat_map, range_with_len}
use Rattle.fault_sim.specs.inner.Suspects.{pair_suspects}
use Rattle.fault_sim.proofs.RangeLemmas.{flat_more}
use Rattle.fault_sim.proofs.suspects.push_later.Goals as goal

pub loop-b-preserved : goal.loop-b-preserved
loop-b-preserved c =
    let lists = c.args.lists.now in
    let k = c.args.k in
    let b = c.loop-b.b in
    let old : List ℕ = c.args.places.now.items in
    let above : suc k ≤ b = omega (arith, c.loop-b.auto.b, lists.few) in
    let next : (b - suc k) + 1 ≡ (b + 1) - suc k = omega (arith, above) in
    record {
      within = omega (arith, c.len-b-end.ensures, lists.few, above);
      places = c.in_ok-push_pair.ensures
          ∙ ap (λ (l : List ℕ). l ++ pair_suspects lists k b) c.loop-b.invariant.places
          ∙ append_assoc old (flat_map (λ x. pair_suspects lists k x) (range_with_len (suc k) (b - suc k))) (pair_suspects lists k b)
          ∙ ap (λ (l : List ℕ). old ++ l)
          (sym (flat_more (λ x. pair_suspects lists k x) (suc k) (b - suc k) b (omega (arith, above)))
          ∙ ap (λ (n : ℕ). flat_map (λ x. pair_suspects lists k x) (range_with_len (suc k) n)) next);
    }

pub returns : goal.returns
returns c =
    let lists = c.args.lists.now in
    let k = c.args.k in
    let end : c.loop-b.b - suc k
    ≡ length lists.nets - suc k = omega (
      arith,
      lists.few,
      c.loop-b.auto.b,
      c.loop-b.auto.b-end,
      c.loop-b.invariant.within,
      c.loop-b-test.false,
      c.len-b-end.ensures,
      c.saturating_add-b.ensures,
    ) in
    c.loop-b.invariant.places
    ∙ ap (λ (n : ℕ). c.args.places.now.items ++ flat_map (λ x. pair_suspects lists k x) (range_with_len (suc k) n)) end
