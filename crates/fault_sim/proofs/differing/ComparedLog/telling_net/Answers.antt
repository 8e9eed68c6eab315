use Rattle.std.proofs.Common.{◌∙◌, ap}
use Rattle.fault_sim.specs.Planned.{NetInPass, PassOfLog}
use Rattle.fault_sim.proofs.differing.ComparedLog.telling_net.Goals as goal

pub returns-then-not-shows : goal.returns-then-not-shows
returns-then-not-shows c =
    ap (λ (n : NetInPass). n.pass.logged) c.of.ensures
    ∙ ap (λ (p : PassOfLog). p.logged) c.pass-pass.ensures ∙ c.logged-logged.ensures
