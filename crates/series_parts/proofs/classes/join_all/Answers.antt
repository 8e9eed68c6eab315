-- Each step of the loop joins the ends of one more edge.
use Rattle.std.proofs.Common.{◌≡◌, get_or, refl, arith}
use Rattle.std.proofs.lemmas.Option.{slice_get-get_or}
use Rattle.series_parts.specs.inner.Roots.{merged}
use Rattle.series_parts.proofs.JoinedLemmas.{reflects_more, reflects_none}
use Rattle.series_parts.proofs.classes.join_all.Goals as goal

pub loop-a-init : goal.loop-a-init
loop-a-init c =
    let len = c.args.parents.now.ok.0 in
    record {
      count = refl;
      low = λ x lt. (let own : get_or c.args.parents.now.items x 0 ≡ x = c.requires.own x (omega (arith, len, lt)) in omega arith);
      labels = (λ x. x, reflects_none c.args.edges.now c.args.parents.now.items (λ x lt. c.requires.own x (omega (arith, len, lt))));
    }

pub loop-a-preserved : goal.loop-a-preserved
loop-a-preserved c =
    let label = c.loop-a.invariant.labels.0 in
    let reflects = c.loop-a.invariant.labels.1 in
    let edge = slice_get-get_or c.args.edges.now c.loop-a.a-index (0, 0) c.loop-a-test.true in
    record {
      count = omega (arith, c.join_ends.ensures.count, c.loop-a.invariant.count);
      low = λ x lt. c.join_ends.ensures.low x (omega (arith, lt, c.join_ends.new.parents.ok.0));
      labels = (
        merged label _ _,
        reflects_more c.args.edges.now c.loop-a.a-index _ _ c.loop-a.parents.items
            c.join_ends.new.parents.items label edge reflects
            (c.join_ends.ensures.labels label reflects.labelling),
      );
    }
