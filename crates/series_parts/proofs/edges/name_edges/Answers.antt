-- Each step of the loop appends the edge of one more line.
use Rattle.std.proofs.Common.{◌≡◌, ◌<◌, ◌+◌, [], drop, length, refl, arith, sym, ◌∙◌, ap, ◌++◌}
use Rattle.std.proofs.lemmas.Option.{get_or_from_slice_get}
use Rattle.series_parts.specs.inner.Edges.{name_edges, name_place}
use Rattle.std.specs.Prelude.{unwrap_or}
use Rattle.series_parts.proofs.EdgeLemmas.{name_edges_step, at}
use Rattle.series_parts.proofs.edges.name_edges.Goals as goal

pub loop-place-preserved : goal.loop-place-preserved
loop-place-preserved c =
    let names = c.args.names.now in
    let within : c.loop-place.place < length names = omega (arith, c.loop-place-test.true, c.len-place-end.ensures) in
    let read : c.at.result.now
    ≡ at names c.loop-place.place = sym
    (get_or_from_slice_get names c.loop-place.place c.at.result.now [] c.at.ensures) in
    let is : c.first_of-first.result
    ≡ unwrap_or (name_place names (at names c.loop-place.place)) c.loop-place.place =
    c.first_of-first.ensures
    ∙ ap (λ n. unwrap_or (name_place names n) c.loop-place.place) read in
    let step = name_edges_step names c.loop-place.place (at names c.loop-place.place)
    c.first_of-first.result c.loop-place.edges.items (name_edges names 0 names) within refl is
    c.loop-place.invariant in
    step ∙ ap (λ es. es ++ name_edges names (c.loop-place.place + 1) (drop (c.loop-place.place + 1) names)) (sym c.in_ok-push.ensures.items)
