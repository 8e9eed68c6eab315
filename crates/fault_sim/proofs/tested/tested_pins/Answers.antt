use Rattle.std.proofs.Common.{◌++◌, List, ap, sym, ◌∙◌, arith}
use Rattle.board_defs.specs.declared.board.PinRef.{PinRef}
use Rattle.fault_sim.specs.inner.Tested.{tested_pins_of}
use Rattle.fault_sim.proofs.RangeLemmas.{flat_more}
use Rattle.fault_sim.proofs.tested.tested_pins.Goals as goal

pub loop-net-preserved : goal.loop-net-preserved
loop-net-preserved c =
    let board = c.args.board.now in
    let plan = c.args.plan.now in
    let n = c.loop-net.net in
    c.in_ok-push_pins.ensures
    ∙ ap (λ (l : List PinRef). l ++ tested_pins_of board plan n) c.loop-net.invariant
    ∙ sym (flat_more (tested_pins_of board plan) 0 n n (omega arith))
