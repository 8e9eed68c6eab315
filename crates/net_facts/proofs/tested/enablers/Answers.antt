use Rattle.std.proofs.Common.{◌≡◌, length, arith, ◌∙◌, ap}
use Rattle.net_facts.specs.Cells.{table}
use Rattle.net_facts.specs.inner.Found.{found_below}
use Rattle.net_facts.specs.inner.Answers.{enables_at_place}
use Rattle.net_facts.proofs.FoundLemmas.{found_more}
use Rattle.net_facts.proofs.tested.enablers.Goals as goal

pub loop-place-preserved : goal.loop-place-preserved
loop-place-preserved c =
    found_more (enables_at_place (table c.args.rows.now) c.args.pins.now) c.loop-place.place
    c.loop-place.found _ c.enables_at.result c.loop-place.invariant c.enables_at.ensures
    c.with_if-found.ensures

pub returns : goal.returns
returns c =
    let e : c.loop-place.place ≡ length c.args.pins.now = omega arith in
    c.loop-place.invariant
    ∙ ap (found_below (enables_at_place (table c.args.rows.now) c.args.pins.now)) e
