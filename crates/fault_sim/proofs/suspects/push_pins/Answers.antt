use Rattle.std.proofs.Common.{◌++◌, ℕ, List, ap, sym, ◌∙◌, append_assoc, arith}
use Rattle.std.specs.List.{flat_map, range_with_len}
use Rattle.fault_sim.specs.inner.Suspects.{pin_suspects}
use Rattle.fault_sim.proofs.RangeLemmas.{flat_more}
use Rattle.fault_sim.proofs.suspects.push_pins.Goals as goal

pub loop-i-preserved : goal.loop-i-preserved
loop-i-preserved c =
    let lists = c.args.lists.now in
    let i = c.loop-i.i in
    let old : List ℕ = c.args.places.now.items in
    c.in_ok-push_pin.ensures
    ∙ ap (λ (l : List ℕ). l ++ pin_suspects lists c.args.n i) c.loop-i.invariant
    ∙ append_assoc old (flat_map (pin_suspects lists c.args.n) (range_with_len 0 i)) (pin_suspects lists c.args.n i)
    ∙ ap (λ (l : List ℕ). old ++ l) (sym (flat_more (pin_suspects lists c.args.n) 0 i i (omega arith)))
