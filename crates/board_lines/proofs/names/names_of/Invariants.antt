use Rattle.std.proofs.Common.{◌≡◌, map, take}
use Rattle.board_lines.specs.Names.{names_of}
use Rattle.board_lines.proofs.names.names_of.Given as goal

abbrev pub invariant-loop-n : goal.invariant-loop-n
invariant-loop-n l = map (λ n. n.now) l.names.items ≡ names_of (map (λ n. (n.0, n.1.now)) (take l.n-index l.named))
