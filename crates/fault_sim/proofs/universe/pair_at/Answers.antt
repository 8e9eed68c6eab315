use Rattle.std.proofs.Common.{◌≡◌, ◌+◌, ◌-◌, ℕ, List, Some, None, length, ap, sym, ◌∙◌, arith}
use Rattle.std.specs.Prelude.{slice_get}
use Rattle.std.proofs.lemmas.Option.{slice_get_past}
use Rattle.lists.proofs.ListLemmas.{item_there}
use Rattle.board_defs.specs.Passes.{pairs_within}
use Rattle.fault_sim.proofs.PlaceLemmas.{length-pairs, pair_within, pair_there}
use Rattle.fault_sim.proofs.universe.pair_at.Goals as goal

pub returns-then-k-count : goal.returns-then-k-count
returns-then-k-count c =
    let nets = c.args.lists.now.nets in
    sym (slice_get_past (pairs_within nets) c.args.k (omega (arith, length-pairs nets, c.if-k-count.true, c.pair_count-count.ensures)))

pub returns-in_err-a : goal.returns-in_err-a
returns-in_err-a c =
    let lists = c.args.lists.now in
    let there = pair_within (length lists.nets) lists.starts c.as_slice-starts.result.now
    c.as_slice-starts.ensures lists.starts_are c.row_of-low.result c.args.k c.start_at.result
    c.row_of-low.ensures.within c.row_of-low.ensures.low c.row_of-low.ensures.high c.start_at.ensures in
    let item = item_there c.as_slice-nets.result.now c.row_of-low.result
    (omega (arith, there.0, ap (λ (l : List ℕ). length l) c.as_slice-nets.ensures)) in
    let bad : None ≡ Some item.0 = c.in_err-a.ensures ∙ item.1 in
    cc bad

pub returns-in_err-b : goal.returns-in_err-b
returns-in_err-b c =
    let lists = c.args.lists.now in
    let low = c.row_of-low.result in
    let high : ℕ = low + 1 + (c.args.k - c.start_at.result) in
    let there = pair_within (length lists.nets) lists.starts c.as_slice-starts.result.now
    c.as_slice-starts.ensures lists.starts_are low c.args.k c.start_at.result
    c.row_of-low.ensures.within c.row_of-low.ensures.low c.row_of-low.ensures.high c.start_at.ensures in
    let item = item_there c.as_slice-nets.result.now high (omega (arith, there.0, ap (λ (l : List ℕ). length l) c.as_slice-nets.ensures)) in
    let bad : None ≡ Some item.0 = c.in_err-b.ensures ∙ item.1 in
    cc bad

pub returns : goal.returns
returns c =
    let lists = c.args.lists.now in
    let low = c.row_of-low.result in
    let high : ℕ = low + 1 + (c.args.k - c.start_at.result) in
    let there = pair_within (length lists.nets) lists.starts c.as_slice-starts.result.now
    c.as_slice-starts.ensures lists.starts_are low c.args.k c.start_at.result
    c.row_of-low.ensures.within c.row_of-low.ensures.low c.row_of-low.ensures.high c.start_at.ensures in
    sym (pair_there lists.nets low high c.args.k c.in_ok-a.a c.in_ok-b.b (omega arith)
    (sym (c.in_ok-a.ensures ∙ ap (λ (l : List ℕ). slice_get l low) c.as_slice-nets.ensures))
    (sym (c.in_ok-b.ensures ∙ ap (λ (l : List ℕ). slice_get l high) c.as_slice-nets.ensures)) there.1)
