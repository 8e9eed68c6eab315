use Rattle.std.proofs.Common.{◌≡◌, length, arith, ◌∙◌, ap}
use Rattle.net_facts.specs.inner.Found.{found_below}
use Rattle.net_facts.specs.inner.Answers.{reads_at}
use Rattle.net_facts.proofs.FoundLemmas.{found_more}
use Rattle.net_facts.proofs.tested.readers.Goals as goal

pub loop-place-preserved : goal.loop-place-preserved
loop-place-preserved c =
    found_more (reads_at c.args.pins.now) c.loop-place.place c.loop-place.found _ c.reads_at.result
    c.loop-place.invariant c.reads_at.ensures c.with_if-found.ensures

pub returns : goal.returns
returns c =
    let e : c.loop-place.place ≡ length c.args.pins.now = omega arith in
    c.loop-place.invariant ∙ ap (found_below (reads_at c.args.pins.now)) e
