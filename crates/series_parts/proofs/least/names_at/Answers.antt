-- Each step of the loop appends one more name.
use Rattle.std.proofs.Common.{◌≡◌, ◌∙◌, ◌++◌, ◌∷◌, [], arith, sym, ap, map, take, get_or}
use Rattle.std.proofs.lemmas.List.{map-append, map_more}
use Rattle.std.proofs.lemmas.Option.{get_or_from_slice_get}
use Rattle.series_parts.proofs.least.names_at.Goals as goal

pub loop-place-preserved : goal.loop-place-preserved
loop-place-preserved c =
    let names = c.args.names.now in
    let places = c.args.places.now in
    let k = c.loop-place.place-index in
    let read : get_or names (get_or places k 0) []
    ≡ c.at.result.now = get_or_from_slice_get names (get_or places k 0) c.at.result.now []
    c.at.ensures in
    ap (map (λ n. n.now)) c.in_ok-push.ensures.items
    ∙ map-append (λ n. n.now) c.loop-place.found.items (c.at.result ∷ [])
    ∙ ap (λ ns. ns ++ c.at.result.now ∷ []) c.loop-place.invariant
    ∙ ap (λ n. map (λ place. get_or names place []) (take k places) ++ n ∷ []) (sym read)
    ∙ sym (map_more (λ place. get_or names place []) places k 0 (omega (arith, c.loop-place-test.true)))
