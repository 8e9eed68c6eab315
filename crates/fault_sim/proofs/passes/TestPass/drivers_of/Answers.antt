use Rattle.std.proofs.Common.{◌≡◌, ◌∙◌, ◌+◌, ℕ, List, Option, length, ap, sym, subst}
use Rattle.std.proofs.lemmas.List.{length_push}
use Rattle.fault_sim.specs.declared.feed.EnabledDriver.{EnabledDriver}
use Rattle.fault_sim.specs.Kept.{AreDrivers, enabled_driver}
use Rattle.fault_sim.specs.Planned.{controls_of}
use Rattle.scan_planner.proofs.NumberedLemmas.{each_more}
use Rattle.fault_sim.proofs.passes.TestPass.drivers_of.Goals as goal

pub loop-n-preserved : goal.loop-n-preserved
loop-n-preserved c =
    let plan = c.args.self.now.test.plan in
    let pass = controls_of c.args.self.now in
    let drivers = c.loop-n.drivers.items in
    let driver = c.driver.result in
    let count = c.loop-n.invariant.0 in
    let last : driver ≡ enabled_driver plan pass (length drivers) = c.driver.ensures ∙ ap
    (λ (n : ℕ). enabled_driver plan pass n) (sym count) in (
      ap (λ (l : List (Option EnabledDriver)). length l) c.in_ok-push.ensures.items
          ∙ length_push drivers driver ∙ ap (λ (n : ℕ). n + 1) count,
      subst (λ (l : List (Option EnabledDriver)). AreDrivers plan pass l)
          (sym c.in_ok-push.ensures.items)
          (each_more (λ n v. v ≡ enabled_driver plan pass n) drivers driver c.loop-n.invariant.1
          last),
    )
