use Rattle.std.proofs.Common.{◌≡◌, map, take}
use Rattle.board_lines.proofs.places.part_names.Given as goal

abbrev pub invariant-loop-part : goal.invariant-loop-part
invariant-loop-part l = map (λ n. n.now) l.names.items ≡ map (λ part. part.name) (take l.part-index l.parts)
