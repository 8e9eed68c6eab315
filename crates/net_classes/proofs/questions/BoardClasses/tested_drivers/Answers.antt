use Rattle.std.proofs.Common.{◌∙◌, ap}
use Rattle.net_classes.specs.Pairs.{drivers_at}
use Rattle.net_classes.proofs.UsefulDrivers.{tested_useful}
use Rattle.net_classes.proofs.questions.BoardClasses.tested_drivers.Goals as goal

pub returns : goal.returns
returns c =
    let drivers = c.drivers_in.ensures c.self.inside.board.now
    (c.deref.ensures.value ∙ c.self.invariant.nets_are)
    ∙ ap (λ b. drivers_at b c.args.net) c.self.view_is in
    record { drivers = drivers; useful = tested_useful c.args.self.now c.args.net _ c.laws.ensures.passes c.laws.ensures.terms drivers }
