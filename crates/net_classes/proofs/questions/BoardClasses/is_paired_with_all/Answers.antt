use Rattle.std.proofs.lemmas.List.{get_or_default}
use Rattle.net_classes.proofs.UnpairedWords.{all_paired}
use Rattle.net_classes.proofs.questions.BoardClasses.is_paired_with_all.Goals as goal

pub returns-then-fits_all : goal.returns-then-fits_all
returns-then-fits_all c e =
    let drivers = c.tested_drivers-d-items.result.now in
    all_paired c.args.self.now c.self.inside.classes.now.pairs c.args.net drivers c.loop-d.d-index _
    (rw c.self.view_is at c.raw-rules.ensures.rules)
    (rw c.self.view_is at c.self.invariant.pairs_are) c.tested_drivers-d-items.ensures.drivers
    c.loop-d-test.true (get_or_default drivers c.loop-d.d-index _ _ c.loop-d-test.true)
    (c.fits_all.ensures c.if-fits_all.true)
