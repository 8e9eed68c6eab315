use Rattle.std.proofs.Common.{◌∙◌, ◌/◌, ◌%◌, ap, sym, arith}
use Rattle.board_defs.specs.Passes.{pairs_within}
use Rattle.fault_sim.specs.Places.{number_places}
use Rattle.fault_sim.proofs.PlaceLemmas.{at_once, flat_at, flat_past, length-four, short_there}
use Rattle.fault_sim.proofs.universe.short_at.Goals as goal

pub returns-in_err-pair : goal.returns-in_err-pair
returns-in_err-pair c plan =
    let k = c.args.k in
    rw c.from_residual.ensures
    (ap at_once
    (flat_past (number_places plan) 4 (length-four plan)
    (pairs_within c.args.lists.now.nets) (k / 4) k c.in_err-pair.ensures (omega arith)))

pub returns : goal.returns
returns c plan =
    let k = c.args.k in
    let pair = c.in_ok-pair.pair in
    ap at_once
    (flat_at (number_places plan) 4 (length-four plan) (pairs_within c.args.lists.now.nets)
    (k / 4) pair (sym c.in_ok-pair.ensures) (k % 4) k (omega arith) (omega arith))
    ∙ short_there plan (pair.0) (pair.1) (k % 4) c.kind_at-kind.result (omega arith) c.kind_at-kind.ensures
