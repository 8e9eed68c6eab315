-- Each step of the loop reads one more label.
use Rattle.std.proofs.Common.{◌≡◌, ◌∷◌, [], ◌++◌, length, get_or, ap, ◌∙◌, sym, arith, rules}
use Rattle.series_parts.proofs.JoinedLemmas.{pushed}
use Rattle.series_parts.proofs.classes.roots.Goals as goal

pub loop-point-preserved : goal.loop-point-preserved
loop-point-preserved c =
    let count : length c.loop-point.labels.items ≡ c.loop-point.point = sym c.loop-point.labels.ok.0 ∙ c.loop-point.invariant.count in
    let items : c.push.new.self.items ≡ c.loop-point.labels.items ++ c.root-label.result ∷ [] = c.in_ok-push.ensures.items in
    record {
      same = omega (arith, c.root-label.ensures.count, c.loop-point.invariant.same);
      low = λ x lt. c.root-label.ensures.low x (omega (arith, lt, c.root-label.new.parents.ok.0));
      kept = λ label h. c.root-label.ensures.labels label (c.loop-point.invariant.kept label h);
      count = search rules;
      labels = λ label h x lt. ap (λ xs. get_or xs x 0) items
          ∙ pushed c.loop-point.labels.items c.root-label.result c.loop-point.point label count
          (c.loop-point.invariant.labels label h)
          (c.root-label.ensures.root label (c.loop-point.invariant.kept label h)) x lt;
    }
