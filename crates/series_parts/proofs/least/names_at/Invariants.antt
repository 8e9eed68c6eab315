use Rattle.std.proofs.Common.{◌≡◌, [], get_or, map, take}
use Rattle.series_parts.proofs.least.names_at.Given as goal

abbrev pub invariant-loop-place : goal.invariant-loop-place
invariant-loop-place l = map (λ n. n.now) l.found.items ≡ map (λ place. get_or l.names place []) (take l.place-index l.places)
