use Rattle.std.proofs.Common.{◌∙◌, ap}
use Rattle.fault_sim.specs.Kept.{enabled_driver}
use Rattle.fault_sim.specs.Planned.{PlanPass}
use Rattle.fault_sim.proofs.passes.TestPass.driver.Goals as goal

pub returns : goal.returns
returns c =
    rw (← c.self.view_is)
    (c.on.ensures
    ∙ ap (λ (d : PlanPass). enabled_driver d.plan d.pass c.args.net)
    c.self.invariant.drivers_are)
