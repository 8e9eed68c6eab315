use Rattle.std.proofs.Common.{◌∙◌, Option, ap}
use Rattle.std.specs.Prelude.{option_map}
use Rattle.fault_sim.specs.declared.feed.EnabledDriver.{EnabledDriver}
use Rattle.fault_sim.specs.Planned.{controls_of}
use Rattle.fault_sim.proofs.KeptLemmas.{place_is}
use Rattle.fault_sim.proofs.passes.TestPass.driver_place.Goals as goal

pub returns-in-None : goal.returns-in-None
returns-in-None c =
    let pass = c.args.self.now in
    ap (λ (o : Option EnabledDriver). option_map (λ d. d.place) o) c.in-None.ensures ∙ place_is pass.test.plan (controls_of pass) c.args.net

pub returns-in-Some : goal.returns-in-Some
returns-in-Some c =
    let pass = c.args.self.now in
    ap (λ (o : Option EnabledDriver). option_map (λ d. d.place) o) c.in-Some.ensures ∙ place_is pass.test.plan (controls_of pass) c.args.net
