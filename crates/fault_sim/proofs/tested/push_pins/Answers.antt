use Rattle.std.proofs.Common.{Bool, List, length, ap, arith}
use Rattle.fault_sim.proofs.TestedLemmas.{length-flags, pin_count_most}
use Rattle.fault_sim.proofs.tested.push_pins.Goals as goal

pub push_flagged-requires : goal.push_flagged-requires
push_flagged-requires c =
    omega (
      arith,
      ap (λ (l : List Bool). length l) c.deref.ensures.value,
      ap (λ (l : List Bool). length l) c.in_ok-flags.ensures,
      length-flags c.args.plan.now c.args.net c.pin_count.result,
      c.pin_count.ensures,
      pin_count_most c.args.board.now c.raw-rules.ensures.rules c.args.net,
    )
