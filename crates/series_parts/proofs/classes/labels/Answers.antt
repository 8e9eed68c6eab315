-- The labels are read after the ends of all edges are joined, so the two ends of each edge have the
-- same label.
use Rattle.std.proofs.Common.{◌≡◌, length, vec_len, sym, ◌∙◌, arith}
use Rattle.series_parts.proofs.JoinedLemmas.{labels_read, if_ok_both, ends_within}
use Rattle.series_parts.proofs.classes.labels.Goals as goal

pub returns-clause-labels : goal.returns-clause-labels
returns-clause-labels c =
    let reflects = c.join_all.ensures.labels.1 in
    let same : vec_len c.join_all.new.parents ≡ c.args.count = c.join_all.ensures.count ∙ c.in_ok-parents.ensures.count in
    if_ok_both _ _ _
    (λ labels count read.
    let len : length labels.items ≡ c.args.count = sym labels.ok.0 ∙ count ∙ same in
    labels_read c.args.edges.now c.join_all.new.parents.items labels.items c.join_all.ensures.labels.0
    (ends_within c.args.edges.now (length labels.items) c.args.count (sym len) c.requires)
    (λ x lt. read c.join_all.ensures.labels.0 reflects.labelling x (omega (arith, lt, len, same))) reflects)
    c.roots.result c.roots.ensures.count c.roots.ensures.labels
