use Rattle.std.proofs.Common.{List, ap}
use Rattle.board_defs.specs.declared.board.Ctl.{Ctl}
use Rattle.fault_sim.specs.Planned.{plan_pass}
use Rattle.fault_sim.proofs.KeptLemmas.{drivers_kept}
use Rattle.fault_sim.proofs.passes.PassDrivers.of.Goals as goal

pub invariant_of-result : goal.invariant_of-result
invariant_of-result c = rw (c.pass.ensures, c.kept_drivers.ensures) (drivers_kept c.args.plan.now c.args.kept.now c.requires.kept c.args.x)

pub returns : goal.returns
returns c = ap (λ (p : List Ctl). plan_pass c.args.plan.now p) c.pass.ensures
