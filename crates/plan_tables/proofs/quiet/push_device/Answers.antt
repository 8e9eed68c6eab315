use Rattle.std.proofs.Common.{◌++◌, List, Bool, ap, ◌∙◌}
use Rattle.plan_tables.proofs.QuietLemmas.{quiet_is}
use Rattle.plan_tables.proofs.quiet.push_device.Goals as goal

pub returns : goal.returns
returns c =
    c.in_ok-extend_from_slice.ensures.items
    ∙ ap (λ (l : List Bool). c.args.quiet.now.items ++ l)
    (c.deref.ensures.value ∙ c.in_ok-row.ensures
    ∙ quiet_is c.args.raw.now c.args.part c.args.device.now c.requires)
