use Rattle.std.proofs.Common.{◌∙◌, ◌/◌, ◌%◌, refl, sym, arith}
use Rattle.board_defs.specs.Faults.{open_faults}
use Rattle.fault_sim.proofs.PlaceLemmas.{flat_at, flat_past, open_fault}
use Rattle.fault_sim.proofs.universe.open_at.Goals as goal

pub returns-in-None : goal.returns-in-None
returns-in-None c =
    let i = c.args.i in
    sym
    (flat_past open_faults 2 (λ pin. refl) c.args.pins.now (i / 2) i c.in-None.ensures
    (omega arith))

pub returns-in-Some : goal.returns-in-Some
returns-in-Some c =
    let i = c.args.i in
    let pin = c.in-Some.pin in
    sym
    (flat_at open_faults 2 (λ pin. refl) c.args.pins.now (i / 2) pin (sym c.in-Some.ensures)
    (i % 2) i (omega arith) (omega arith) ∙ open_fault pin (i % 2) (omega arith))
