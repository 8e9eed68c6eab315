use Rattle.std.proofs.Common.{◌∙◌, ◌/◌, ◌%◌, refl, sym, arith}
use Rattle.board_defs.specs.Faults.{stuck_faults}
use Rattle.fault_sim.proofs.PlaceLemmas.{flat_at, flat_past, stuck_fault}
use Rattle.fault_sim.proofs.universe.stuck_at.Goals as goal

pub returns-in-None : goal.returns-in-None
returns-in-None c = let i = c.args.i in sym (flat_past stuck_faults 2 (λ n. refl) c.args.nets.now (i / 2) i c.in-None.ensures (omega arith))

pub returns-in-Some : goal.returns-in-Some
returns-in-Some c =
    let i = c.args.i in
    let net = c.in-Some.net in
    sym
    (flat_at stuck_faults 2 (λ n. refl) c.args.nets.now (i / 2) net (sym c.in-Some.ensures)
    (i % 2) i (omega arith) (omega arith) ∙ stuck_fault net (i % 2) (omega arith))
