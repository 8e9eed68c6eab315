use Rattle.std.proofs.Common.{ℕ, Option, Decides, subst}
use Rattle.fault_sim.specs.declared.effect.Effect.{Effect}
use Rattle.fault_sim.specs.Effects.{effect_in}
use Rattle.fault_sim.specs.Fits.{ShowsEffect}
use Rattle.fault_sim.specs.Planned.{controls_of}
use Rattle.fault_sim.proofs.passes.LoggedPass.shows.Goals as goal

pub returns : goal.returns
returns c =
    let pass = c.self.inside.pass in
    let plan = pass.test.plan in
    let log = c.self.inside.log.now in
    let r = c.shows_effect.result in
    let own = rw (← c.self.view_is) at c.shows_effect.ensures in
    rw (← c.self.view_is)
    (subst
    (λ (d : Option ℕ). Decides r
    (ShowsEffect plan log pass.number c.args.net
    (effect_in pass.test.board plan (controls_of pass) c.args.fault c.args.net) d))
    c.driver_place.ensures
    (subst (λ (e : Effect). Decides r (ShowsEffect plan log pass.number c.args.net e c.driver_place.result)) c.effect-effect.ensures own))
