use Rattle.std.proofs.Common.{◌∙◌, Option, ap}
use Rattle.fault_sim.specs.declared.feed.EnabledDriver.{EnabledDriver}
use Rattle.fault_sim.specs.inner.Kept.{observes_coded}
use Rattle.fault_sim.proofs.KeptLemmas.{observes_is}
use Rattle.fault_sim.proofs.passes.PassDrivers.observes.Goals as goal

pub returns : goal.returns
returns c =
    let pass = c.args.self.now in
    c.observes.ensures ∙ ap (λ (o : Option EnabledDriver). observes_coded o) c.on.ensures ∙ observes_is pass.plan pass.pass c.args.net
