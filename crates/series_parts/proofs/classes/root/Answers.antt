-- Shortening the path of a point does not change any label.
use Rattle.std.proofs.Common.{◌≡◌, ℕ, ◌<◌, ◌≤◌, ◌≢◌, length, get_or, arith, rules, sym, ◌∙◌}
use Rattle.std.proofs.lemmas.List.{get_or_read}
use Rattle.series_parts.proofs.RootLemmas.{low-set, labels-halved, same_label}
use Rattle.series_parts.proofs.classes.root.Goals as goal

pub loop-at-preserved : goal.loop-at-preserved
loop-at-preserved c =
    let parents = c.loop-at.parents.items in
    let at = c.loop-at.at in
    let parent : ℕ = c.index-parent.result.now in
    let above : ℕ = c.index-above.result.now in
    let count : c.loop-at.parents.len ≡ length parents = c.loop-at.parents.ok.0 in
    let within : at < length parents = omega (arith, c.loop-at.invariant.within, count) in
    let here : c.index.result.now ≡ get_or parents at 0 = get_or_read parents at c.index.result.now within c.index.ensures 0 in
    let p : parent ≡ get_or parents at 0 = get_or_read parents at parent within c.index-parent.ensures 0 in
    let ne : parent ≢ at = λ e. c.loop-at-test.true (here ∙ sym p ∙ e) in
    let low : parent ≤ at = omega (arith, p, c.loop-at.invariant.low at within) in
    let inside : parent < length parents = omega (arith, low, within) in
    let a : above ≡ get_or parents parent 0 = get_or_read parents parent above inside c.index-above.ensures 0 in
    let lower : above ≤ parent = omega (arith, a, c.loop-at.invariant.low parent inside) in
    record {
      count = search rules;
      within = omega (arith, lower, low, c.loop-at.invariant.within);
      low = low-set parents at above within (omega (arith, lower, low)) c.loop-at.invariant.low;
      labels = λ label h. labels-halved parents at parent above label within p a ne (c.loop-at.invariant.labels label h);
      same =
          λ label h. same_label parents at parent above label within inside p a
          (c.loop-at.invariant.labels label h) ∙ c.loop-at.invariant.same label h;
    }
