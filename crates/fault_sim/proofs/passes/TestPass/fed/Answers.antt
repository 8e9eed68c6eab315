use Rattle.std.proofs.Common.{◌∙◌, Bool, Option, ap}
use Rattle.fault_sim.specs.declared.feed.EnabledDriver.{EnabledDriver}
use Rattle.fault_sim.specs.declared.feed.FedNet.{FedNet}
use Rattle.fault_sim.specs.declared.feed.Feed.{Feed}
use Rattle.fault_sim.specs.Effects.{pull_in}
use Rattle.fault_sim.specs.Kept.{enabled_driver}
use Rattle.fault_sim.specs.Planned.{controls_of}
use Rattle.fault_sim.specs.inner.Kept.{net_fed_by}
use Rattle.fault_sim.proofs.KeptLemmas.{feed_is}
use Rattle.fault_sim.proofs.passes.TestPass.fed.Goals as goal

pub returns : goal.returns
returns c =
    let pass = c.args.self.now in
    let pull = pull_in pass.test.board c.args.net in
    c.net_fed_by.ensures
    ∙ ap (λ (d : Option EnabledDriver). net_fed_by d c.pull.result) c.driver.ensures
    ∙ ap (λ (p : Option Bool). net_fed_by (enabled_driver pass.test.plan (controls_of pass) c.args.net) p) c.pull.ensures
    ∙ ap (λ (f : Option Feed). let fed : FedNet = record { feed = f; pull = pull } in fed)
    (feed_is pass.test.plan (controls_of pass) c.args.net pull)
